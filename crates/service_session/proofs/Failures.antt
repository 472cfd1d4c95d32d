-- Failures of two disks, and what they leave begun.
use Rattle.std.proofs.Common.{◌≡◌, ◌⊎◌, inl, inr, ⊎_elim, ℕ, ◌+◌, ◌-◌, ◌≤◌, Option, Some, None, Result, Ok, Err, refl, ◌∙◌, arith}
use Rattle.std.proofs.lemmas.Bool.{cases_lt}
use Rattle.disk_core.specs.declared.pair.Pair.{Pair}
use Rattle.feature_journal.specs.Faults.{NoneFell, OneRose}
use Rattle.service_session.specs.Became.{LeavesBegun, HaveFailed}
use Rattle.service_session.specs.Solo.{answer_of}
use Rattle.service_session.specs.Told.{store_fault}
use Rattle.wfs_ends.specs.Ends.{Rose, last_count}
use Rattle.wfs_model.specs.declared.change.Change.{Change}
use Rattle.wfs_model.specs.declared.entry.Entry.{Entry}
use Rattle.wfs_model.specs.declared.reply.Reply.{Reply}
use Rattle.wfs_store.specs.declared.fault.StepFault.{StepFault}
use Rattle.wfs_store.specs.declared.fault.StepFault.TheVariants as fault
use Rattle.wfs_store.specs.Held.{Held}
use Rattle.wfs_store.specs.Stepped.{Begun, change_by}
use Rattle.wfs_store.specs.Written.{begun_after}

-- ---- counts

rose_or : (old new : ℕ) → Rose old new → (old + 1 ≤ new) ⊎ (last_count ≤ new)
rose_or old new rose =
    ⊎_elim (λ below. let is : old + 1 ≤ new = omega (arith, below, rose) in inl is) (λ past. let is : last_count ≤ new = omega (arith, past, rose) in inr is)
    (cases_lt (old + 1) last_count)

rose_before : (a b c : ℕ) → a ≤ b → Rose b c → Rose a c
rose_before a b c le rose = omega (arith, le, rose)

rose_behind : (a b c : ℕ) → Rose a b → b ≤ c → Rose a c
rose_behind a b c rose le = omega (arith, le, rose)

fell_sum : (a b c d e f n k : ℕ) → a ≤ b → b ≤ c → d ≤ e → e ≤ f → n ≤ (b - a) + (e - d) → k ≤ (c - b) + (f - e) → n + k ≤ (c - a) + (f - d)
fell_sum a b c d e f n k ab bc de ef g h = omega (arith, ab, bc, de, ef, g, h)

module _ {D : Type 0} (faults : D → ℕ) where
  pub none_fell : (a : Pair D) → NoneFell faults a a
  none_fell a = (omega arith, omega arith)

  pub none_fell_both : (a b c : Pair D) → NoneFell faults a b → NoneFell faults b c → NoneFell faults a c
  none_fell_both a b c g h = (omega (arith, g.0, h.0), omega (arith, g.1, h.1))

  one_rose_before : (a b c : Pair D) → NoneFell faults a b → OneRose faults b c → OneRose faults a c
  one_rose_before a b c fell (inl rose) = inl (rose_before (faults a.a) (faults b.a) (faults c.a) fell.0 rose)
  one_rose_before a b c fell (inr rose) = inr (rose_before (faults a.b) (faults b.b) (faults c.b) fell.1 rose)

  one_rose_behind : (a b c : Pair D) → OneRose faults a b → NoneFell faults b c → OneRose faults a c
  one_rose_behind a b c (inl rose) fell = inl (rose_behind (faults a.a) (faults b.a) (faults c.a) rose fell.0)
  one_rose_behind a b c (inr rose) fell = inr (rose_behind (faults a.b) (faults b.b) (faults c.b) rose fell.1)

  pub failed_none : (a b : Pair D) → HaveFailed faults a 0 b
  failed_none a b = let none_is : 0 ≤ (faults b.a - faults a.a) + (faults b.b - faults a.b) = omega arith in inl none_is

  pub failed_both : (a b c : Pair D) (n k : ℕ) → NoneFell faults a b → NoneFell faults b c → HaveFailed faults a n b → HaveFailed faults b k c → HaveFailed faults a (n + k) c
  failed_both a b c n k first then (inl g) (inl h) =
      inl (fell_sum (faults a.a) (faults b.a) (faults c.a) (faults a.b) (faults b.b) (faults c.b) n k first.0 then.0 first.1 then.1 g h)
  failed_both a b c n k first then (inr (inl g)) (inl h) = let last : last_count ≤ faults c.a = omega (arith, then.0, g) in inr (inl last)
  failed_both a b c n k first then (inr (inr g)) (inl h) = let last : last_count ≤ faults c.b = omega (arith, then.1, g) in inr (inr last)
  failed_both a b c n k first then g (inr h) = inr h

  failed_one : (a b : Pair D) → OneRose faults a b → HaveFailed faults a 1 b
  failed_one a b (inl rose) =
      ⊎_elim (λ above. let one : 1 ≤ (faults b.a - faults a.a) + (faults b.b - faults a.b) = omega (arith, above) in inl one) (λ last. inr (inl last)) (rose_or (faults a.a) (faults b.a) rose)
  failed_one a b (inr rose) =
      ⊎_elim (λ above. let one : 1 ≤ (faults b.a - faults a.a) + (faults b.b - faults a.b) = omega (arith, above) in inl one) (λ last. inr (inr last)) (rose_or (faults a.b) (faults b.b) rose)

  -- a store fault comes of a failure
  pub failed_by : (a b : Pair D) (result : Result Reply StepFault) → (result ≡ Err fault.StoreFault → OneRose faults a b) → HaveFailed faults a (store_fault (answer_of result)) b
  failed_by a b (Ok reply) cause = failed_none a b
  failed_by a b (Err fault.StoreFault) cause = failed_one a b (cause refl)
  failed_by a b (Err (fault.Full limit)) cause = failed_none a b
  failed_by a b (Err fault.OutOfMemory) cause = failed_none a b

  -- ---- what is begun

  ended_or : (old new : Held D) (made : Option Change) → new.begun ≡ begun_after made old.begun → (new.begun ≡ None) ⊎ (new.begun ≡ old.begun)
  ended_or old new None is = inr is
  ended_or old new (Some change) is = inl is

  pub begun_by : (old new : Held D) (entry : Entry) (result : Result Reply StepFault) → Begun old entry result new → (result ≡ Err fault.StoreFault → OneRose faults old.disks new.disks) → LeavesBegun faults old new
  begun_by old new entry (Ok reply) is cause = inl (ended_or old new (change_by old entry) is)
  begun_by old new entry (Err fault.StoreFault) is cause = inr (cause refl)
  begun_by old new entry (Err (fault.Full limit)) is cause = inl (inr is)
  begun_by old new entry (Err fault.OutOfMemory) is cause = inl (inr is)

  begun_after_same : (a b c : Held D) → b.begun ≡ a.begun → LeavesBegun faults b c → NoneFell faults a.disks b.disks → LeavesBegun faults a c
  begun_after_same a b c same (inl (inl ended)) fell = inl (inl ended)
  begun_after_same a b c same (inl (inr stayed)) fell = inl (inr (stayed ∙ same))
  begun_after_same a b c same (inr rose) fell = inr (one_rose_before a.disks b.disks c.disks fell rose)

  begun_after_none : (a b c : Held D) → b.begun ≡ None → LeavesBegun faults b c → NoneFell faults a.disks b.disks → LeavesBegun faults a c
  begun_after_none a b c is (inl (inl ended)) fell = inl (inl ended)
  begun_after_none a b c is (inl (inr stayed)) fell = inl (inl (stayed ∙ is))
  begun_after_none a b c is (inr rose) fell = inr (one_rose_before a.disks b.disks c.disks fell rose)

  pub begun_both : (a b c : Held D) → NoneFell faults a.disks b.disks → NoneFell faults b.disks c.disks → LeavesBegun faults a b → LeavesBegun faults b c → LeavesBegun faults a c
  begun_both a b c first then (inl (inl ended)) h = begun_after_none a b c ended h first
  begun_both a b c first then (inl (inr stayed)) h = begun_after_same a b c stayed h first
  begun_both a b c first then (inr rose) h = inr (one_rose_behind a.disks b.disks c.disks rose then)
