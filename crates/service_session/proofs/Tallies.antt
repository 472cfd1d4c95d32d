-- Tallies of store faults.
use Rattle.std.proofs.Common.{◌≡◌, ◌⊎◌, inl, inr, ⊎_elim, ℕ, ◌+◌, ◌<◌, ◌≤◌, List, length, get_or, Result, Ok, Err, refl, sym, ap, ◌∙◌, subst, arith}
use Rattle.std.specs.Prelude.{min}
use Rattle.std.proofs.lemmas.Bool.{cases_lt}
use Rattle.std.proofs.lemmas.List.{length-set, get_or-set_same, get_or-set_other}
use Rattle.service_session.specs.Became.{IsTallied}
use Rattle.service_session.specs.Solo.{own_seat, answer_of}
use Rattle.service_session.specs.Told.{store_fault}
use Rattle.wfs_ends.specs.Ends.{last_count}
use Rattle.wfs_model.specs.declared.entry.Entry.{Entry}
use Rattle.wfs_model.specs.declared.reply.Reply.{Reply}
use Rattle.wfs_store.specs.declared.fault.StepFault.{StepFault}
use Rattle.wfs_store.specs.declared.fault.StepFault.TheVariants as fault
use Rattle.wfs_store.specs.Held.{Held}
use Rattle.wfs_store.specs.Stepped.{Tallied, one_more}

above_or : (n most : ℕ) → (min n most ≡ n) ⊎ (most ≤ min n most)
above_or n most = ⊎_elim (λ below. let is : min n most ≡ n = omega (arith, below) in inl is) (λ past. let is : most ≤ min n most = omega (arith, past) in inr is) (cases_lt n most)

pub tallied_none : (tally : List ℕ) → IsTallied tally 0 tally
tallied_none tally = record {
  size = refl;
  own = λ some. let same : get_or tally own_seat 0 ≡ get_or tally own_seat 0 + 0 = omega arith in inl same;
  others = λ seat other. refl;
}

own_both : (a b c n k : ℕ) → (b ≡ a + n) ⊎ (last_count ≤ b) → (c ≡ b + k) ⊎ (last_count ≤ c) → (c ≡ a + (n + k)) ⊎ (last_count ≤ c)
own_both a b c n k (inl first) (inl then) = let is : c ≡ a + (n + k) = omega (arith, first, then) in inl is
own_both a b c n k (inr first) (inl then) = let is : last_count ≤ c = omega (arith, first, then) in inr is
own_both a b c n k first (inr then) = inr then

pub tallied_both : (a b c : List ℕ) (n k : ℕ) → IsTallied a n b → IsTallied b k c → IsTallied a (n + k) c
tallied_both a b c n k g h = record {
  size = h.size ∙ g.size;
  own = λ some. own_both (get_or a own_seat 0) (get_or b own_seat 0) (get_or c own_seat 0) n k (g.own some) (h.own (subst (λ (m : ℕ). 0 < m) (sym g.size) some));
  others = λ seat other. h.others seat other ∙ g.others seat other;
}

tallied_one : (old new : List ℕ) → new ≡ one_more old own_seat → IsTallied old 1 new
tallied_one old new is =
    let most : ℕ = min (get_or old own_seat 0 + 1) last_count in
    record {
      size = ap length is ∙ length-set old own_seat most;
      own = λ some.
          let there : get_or new own_seat 0 ≡ most = ap (λ (l : List ℕ). get_or l own_seat 0) is ∙ get_or-set_same old own_seat most 0 some in
          ⊎_elim (λ same. inl (there ∙ same)) (λ past. inr (subst (λ (m : ℕ). last_count ≤ m) (sym there) past)) (above_or (get_or old own_seat 0 + 1) last_count);
      others = λ seat other. ap (λ (l : List ℕ). get_or l seat 0) is ∙ get_or-set_other old own_seat seat most 0 other;
    }

tallied_same : (old new : List ℕ) → new ≡ old → IsTallied old 0 new
tallied_same old new is = rw is (tallied_none old)

-- a store fault of the one seat is tallied, and nothing else
pub tallied_by : {D : Type 0} (old new : Held D) (entry : Entry) → entry.seat ≡ own_seat → (result : Result Reply StepFault) → Tallied old entry result new → IsTallied old.tally (store_fault (answer_of result)) new.tally
tallied_by old new entry own (Ok reply) is = tallied_same old.tally new.tally is
tallied_by old new entry own (Err fault.StoreFault) is = tallied_one old.tally new.tally (is ∙ ap (one_more old.tally) own)
tallied_by old new entry own (Err (fault.Full limit)) is = tallied_same old.tally new.tally is
tallied_by old new entry own (Err fault.OutOfMemory) is = tallied_same old.tally new.tally is
