-- What making the journal shorter comes to at each of its ends.
use Rattle.std.proofs.Common.{◌≡◌, ◌⊎◌, inl, inr, ⊎_elim, ℕ, ◌≤◌, List, [], Option, Some, None, Result, Ok, Err, refl, sym, ap, ◌∙◌, subst, arith}
use Rattle.std.specs.Prelude.{◌+◌, min, not}
use Rattle.checkpoints.specs.declared.fault.CompactFault.{CompactFault}
use Rattle.checkpoints.specs.declared.fault.CompactFault.TheVariants as compacting
use Rattle.checkpoints.specs.Length.{side_length, Passes}
use Rattle.disk_core.specs.declared.pair.Pair.{Pair}
use Rattle.disk_core.specs.Sides.{Always, Within}
use Rattle.disk_core.specs.Sides.Always.{once, then as link}
use Rattle.durable_journal.specs.Current.{current_in, turned, HoldsCheckpoint}
use Rattle.durable_journal.specs.Kept.{Keeps}
use Rattle.durable_journal.specs.Opened.{checkpoint_bodies}
use Rattle.durable_journal.specs.Standing.{SaysKept, SaysWith}
use Rattle.feature_journal.specs.declared.journal.Journal.{Journal}
use Rattle.feature_journal.specs.Faults.{NoneFell, OneRose}
use Rattle.feature_journal.specs.Kept.{SameSide, disks_of, is_second, generation_in, length_of, limit_of}
use Rattle.feature_journal.proofs.Knowing.{always_more}
use Rattle.feature_values.specs.declared.schema.Schema.{Schema}
use Rattle.wfs_ends.specs.Ends.{last_count, Rose}
use Rattle.wfs_model.specs.declared.change.Change.{Change}
use Rattle.wfs_model.specs.declared.limits.FullAt.{FullAt}
use Rattle.wfs_model.specs.declared.limits.Limits.{Limits}
use Rattle.wfs_model.specs.declared.limits.LimitName.TheVariants.{Side}
use Rattle.wfs_model.specs.State.{Durable, State, durable}
use Rattle.wfs_store.specs.declared.course.Course.{Course}
use Rattle.wfs_store.specs.declared.fault.StepFault.{StepFault}
use Rattle.wfs_store.specs.declared.fault.StepFault.TheVariants.{StoreFault, Full, OutOfMemory}
use Rattle.wfs_store.specs.Compacted.{from_compaction, checkpoint_in, IsFullSide, IsEnded, IsCompactionOf}
use Rattle.wfs_store.specs.Held.{Held, now_of, kept_of}
use Rattle.wfs_store.specs.Kept.{IsStore, held_of}

with_more : (schema : Schema) (kept : Durable) (begun : Option Change) (x y : List ℕ) → SaysKept schema kept x y → SaysWith schema kept begun x y
with_more schema kept None x y says = says
with_more schema kept (Some change) x y says = inl says

-- one call after the other
pub same_on : {D : Type 0} (a b c : Journal D) → SameSide a b → SameSide b c → SameSide a c
same_on a b c first second = record {
  second = second.second ∙ first.second;
  generation = second.generation ∙ first.generation;
  length = second.length ∙ first.length;
  limit = second.limit ∙ first.limit;
}

-- the current side, where it stays, and where the other one is made behind a call that left it
same_current : {D : Type 0} (a b : Journal D) → SameSide a b → current_in b ≡ current_in a
same_current a b same = rw (same.second, same.generation) refl

next_current : {D : Type 0} (a b c : Journal D) → SameSide a b → is_second c ≡ not (is_second b) → generation_in c ≡ generation_in b + 1 → current_in c ≡ turned (current_in a)
next_current a b c same second generation = rw (second, generation, same.second, same.generation) refl

same_fault : (fault : StepFault) → (let r : Result (Unit {0}) StepFault = Err fault in r) ≡ Err StoreFault → fault ≡ StoreFault
same_fault fault is = cc

rose_behind : (a b c : ℕ) → a ≤ b → Rose b c → Rose a c
rose_behind a b c le rose = omega (arith, le, rose)

rose_on : {D : Type 0} (faults : D → ℕ) (a b c : Pair D) → NoneFell faults a b → OneRose faults b c → OneRose faults a c
rose_on faults a b c fell (inl rose) = inl (rose_behind (faults a.a) (faults b.a) (faults c.a) fell.0 rose)
rose_on faults a b c fell (inr rose) = inr (rose_behind (faults a.b) (faults b.b) (faults c.b) fell.1 rose)

disk_fault : (fault : CompactFault) → from_compaction fault ≡ StoreFault → fault ≡ compacting.DiskFault
disk_fault compacting.DiskFault is = refl
disk_fault (compacting.Full sum) is = absurd cc
disk_fault compacting.OutOfMemory is = absurd cc

-- a store fault comes where a disk failed in the first call or in the second
pub rose_then : {D : Type 0} (faults : D → ℕ) (a b c : Pair D) (fault : CompactFault) → NoneFell faults a b
    → ((let r : Result (Unit {0}) CompactFault = Err fault in r) ≡ Err compacting.DiskFault → OneRose faults b c)
    → from_compaction fault ≡ StoreFault → OneRose faults a c
rose_then faults a b c fault fell rose is = rose_on faults a b c fell (rose (ap (λ (f : CompactFault). let r : Result (Unit {0}) CompactFault = Err f in r) (disk_fault fault is)))

-- why a checkpoint is refused with this number: the generation is the last one, or these bodies pass the limit
abbrev IsFullBy : (generation limit : ℕ) → List (List ℕ) → ℕ → Type 0
IsFullBy generation limit bodies sum = ((generation ≡ last_count) × (sum ≡ last_count)) ⊎ Passes limit sum bodies

-- what is full is told of the side before what was begun was ended, and of the checkpoint by what features keep
pub full_told : (before generation limit most : ℕ) (told bodies : List (List ℕ)) (fault : CompactFault) → generation ≡ before → limit ≡ most → told ≡ bodies
    → ((sum : ℕ) → (let r : Result (Unit {0}) CompactFault = Err fault in r) ≡ Err (compacting.Full sum) → IsFullBy generation limit told sum)
    → (sum : ℕ) → fault ≡ compacting.Full sum → IsFullBy before most bodies sum
full_told before generation limit most told bodies fault generation_is limit_is told_is full sum is =
    ⊎_elim (λ last. inl (sym generation_is ∙ last.0, last.1))
    (λ passes. inr (subst (λ (b : List (List ℕ)). Passes most sum b) told_is (subst (λ (n : ℕ). Passes n sum told) limit_is passes)))
    (full sum (ap (λ (f : CompactFault). let r : Result (Unit {0}) CompactFault = Err f in r) is))

-- nothing is begun then, whatever a checkpoint that was not made left
pub either_none : {A B : Type 0} → A ⊎ (B × A) → A
either_none (inl a) = a
either_none (inr both) = both.1

-- how long a side is that keeps what it says, within the limit
pub side_shown : {D : Type 0} (images : D → List ℕ → Type 0) (schema : Schema) (kept : Durable) (journal : Journal D) (limits : Limits) (told : ℕ)
    → Keeps images schema kept None journal → limit_of journal ≡ limits.side → told ≡ min (length_of journal) last_count → told ≡ length_of journal
side_shown images schema kept journal limits told (inl rest) limit said =
    let within = rest.rests.within in
    let most = limits.side_within in
    omega (arith, limit, said, within, most)
side_shown images schema kept journal limits told (inr begun) limit said =
    let within = begun.began.within in
    let most = limits.side_within in
    omega (arith, limit, said, within, most)

module _ {D : Type 0} (moment : D → ℕ) (since : D → ℕ → List ℕ → Type 0) (images : D → List ℕ → Type 0) (faults : D → ℕ)
    (course : Course) (before : Journal D) (bodies : List (List ℕ)) (side : ℕ) (begun : Option Change) (tally : List ℕ)
    (empty : course.history.items ≡ []) (is : IsStore images course before bodies side begun) where
  abbrev pub was : Held D
  was = held_of course before bodies side begun tally

  now_is : course.state.state ≡ now_of was
  now_is = is.memory.past.state

  -- the same store on another journal, of as long a side
  pub stays : (after : Journal D) (left : Option Change) → Keeps images course.state.schema (durable course.state.state) left after → SameSide before after
      → IsStore images course after bodies side left
  stays after left keeps same = record {
    kept = is.kept;
    come = is.come;
    memory = is.memory;
    keeps = keeps;
    length = same.length ∙ is.length;
    limit = same.limit ∙ is.limit;
    within = rw same.length is.within;
  }

  pub shortened : (after : Journal D) (told : ℕ) → Keeps images course.state.schema (durable course.state.state) None after
      → limit_of after ≡ limit_of before → length_of after ≤ limit_of after → told ≡ min (length_of after) last_count
      → IsStore images course after bodies told None
  shortened after told keeps limit within said =
      let most = course.limits.side_within in
      let at : limit_of after ≡ course.limits.side = limit ∙ is.limit in
      let low : length_of after ≤ course.limits.side = subst (λ (n : ℕ). length_of after ≤ n) at within in
      record {
        kept = is.kept;
        come = is.come;
        memory = is.memory;
        keeps = keeps;
        length = rw empty (omega (arith, said, low, most));
        limit = at;
        within = low;
      }

  goes_with : (after : Journal D) → Always moment since (SaysWith course.state.schema (durable course.state.state) begun) (disks_of before) (disks_of after)
      → Always moment since (SaysWith course.state.schema (kept_of was) begun) (disks_of before) (disks_of after)
  goes_with after goes = subst (λ (s : State). Always moment since (SaysWith course.state.schema (durable s) begun) (disks_of before) (disks_of after)) now_is goes

  -- the record that was begun was not ended
  pub not_mended : (after : Journal D) → Within moment since (SaysWith course.state.schema (durable course.state.state) begun) (disks_of before) (disks_of after)
      → NoneFell faults (disks_of before) (disks_of after) → OneRose faults (disks_of before) (disks_of after) → SameSide before after
      → IsCompactionOf moment since images faults was (Err StoreFault) (held_of course after bodies side begun tally)
  not_mended after goes fell rose still = record {
    same = refl;
    side = refl;
    current = same_current before after still;
    begun = inr refl;
    full = λ at e. absurd cc;
    goes = goes_with after (once (disks_of before) (disks_of after) goes);
    count = fell;
    cause = λ e. rose;
  }

  fell_on : (a b c : Pair D) → NoneFell faults a b → NoneFell faults b c → NoneFell faults a c
  fell_on a b c first second = (omega (arith, first.0, second.0), omega (arith, first.1, second.1))

  both_go : (mid after : Journal D) → Within moment since (SaysWith course.state.schema (durable course.state.state) begun) (disks_of before) (disks_of mid)
      → Always moment since (SaysWith course.state.schema (durable course.state.state) None) (disks_of mid) (disks_of after)
      → Always moment since (SaysWith course.state.schema (kept_of was) begun) (disks_of before) (disks_of after)
  both_go mid after first second =
      goes_with after (link (disks_of before) (disks_of mid) (disks_of after) first
      (always_more moment since (SaysKept course.state.schema (durable course.state.state)) (SaysWith course.state.schema (durable course.state.state) begun) (disks_of mid) (disks_of after)
      (with_more course.state.schema (durable course.state.state) begun) second))

  ended_is : (fault : StepFault) (after : Journal D) → IsEnded was (Err fault) (held_of course after bodies side None tally)
  ended_is StoreFault after = inl refl
  ended_is (Full at) after = refl
  ended_is OutOfMemory after = refl

  full_is : (fault : CompactFault)
      → ((sum : ℕ) → fault ≡ compacting.Full sum → IsFullBy (generation_in before) course.limits.side (checkpoint_bodies course.state.schema (durable course.state.state)) sum)
      → IsFullSide was (Err (from_compaction fault))
  full_is compacting.DiskFault full at e = absurd cc
  full_is (compacting.Full sum) full at e =
      let same : record { limit = Side; number = sum } ≡ at = cc in
      subst (λ (f : FullAt). (f.limit ≡ Side) × IsFullBy (generation_in before) course.limits.side (checkpoint_in was) f.number) same
      (refl, subst (λ (s : State). IsFullBy (generation_in before) course.limits.side (checkpoint_bodies course.state.schema (durable s)) sum) now_is (full sum refl))
  full_is compacting.OutOfMemory full at e = absurd cc

  -- the checkpoint was not made
  pub not_shortened : (fault : CompactFault) (mid after : Journal D)
      → Within moment since (SaysWith course.state.schema (durable course.state.state) begun) (disks_of before) (disks_of mid)
      → Always moment since (SaysWith course.state.schema (durable course.state.state) None) (disks_of mid) (disks_of after)
      → ((sum : ℕ) → fault ≡ compacting.Full sum → IsFullBy (generation_in before) course.limits.side (checkpoint_bodies course.state.schema (durable course.state.state)) sum)
      → NoneFell faults (disks_of before) (disks_of mid) → NoneFell faults (disks_of mid) (disks_of after)
      → (from_compaction fault ≡ StoreFault → OneRose faults (disks_of before) (disks_of after)) → SameSide before after
      → IsCompactionOf moment since images faults was (Err (from_compaction fault)) (held_of course after bodies side None tally)
  not_shortened fault mid after first second full fell fell_then rose still = record {
    same = refl;
    side = refl;
    current = same_current before after still;
    begun = ended_is (from_compaction fault) after;
    full = full_is fault full;
    goes = both_go mid after first second;
    count = fell_on (disks_of before) (disks_of mid) (disks_of after) fell fell_then;
    cause = λ e. rose (same_fault (from_compaction fault) e);
  }

  pub done_shorter : (mid after : Journal D) (told : ℕ)
      → Within moment since (SaysWith course.state.schema (durable course.state.state) begun) (disks_of before) (disks_of mid)
      → Always moment since (SaysWith course.state.schema (durable course.state.state) None) (disks_of mid) (disks_of after)
      → told ≡ side_length (checkpoint_bodies course.state.schema (durable course.state.state))
      → NoneFell faults (disks_of before) (disks_of mid) → NoneFell faults (disks_of mid) (disks_of after)
      → SameSide before mid → is_second after ≡ not (is_second mid) → generation_in after ≡ generation_in mid + 1
      → HoldsCheckpoint images (current_in after) course.state.schema (durable course.state.state) (disks_of after)
      → IsCompactionOf moment since images faults was (Ok tt) (held_of course after bodies told None tally)
  done_shorter mid after told first second long fell fell_then still other next holds = record {
    same = refl;
    side = long ∙ ap (λ (s : State). side_length (checkpoint_bodies course.state.schema (durable s))) now_is;
    current = record {
      turned = next_current before mid after still other next;
      holds = subst (λ (s : State). HoldsCheckpoint images (current_in after) course.state.schema (durable s) (disks_of after)) now_is holds;
    };
    begun = refl;
    full = λ at e. absurd cc;
    goes = both_go mid after first second;
    count = fell_on (disks_of before) (disks_of mid) (disks_of after) fell fell_then;
    cause = λ e. absurd cc;
  }
