-- From the start of a recovery to its end.
use Rattle.std.proofs.Common.{◌≡◌, ◌≤◌, inl, inr, ⊎_elim, ℕ, ◌<◌, ◌^◌, List, [], ◌∷◌, ◌++◌, length, refl, sym, ◌∙◌, ap, subst, arith, Option, None, Some, IfSome, IfOk, IfErr, Result, Ok, Err, Bool, true, false, not, cond}
use Rattle.std.specs.Int.{to_be_bytes, w64}
use Rattle.disk_core.specs.Disk.{Leads, Every, Same, Begins}
use Rattle.disk_core.specs.Sides.{Within, Always, chosen, spare}
use Rattle.disk_core.specs.Sides.Always.{then as link}
use Rattle.disk_core.specs.declared.pair.Pair.{Pair}
use Rattle.disk_core.proofs.Seen.{at_some}
use Rattle.feature_journal.specs.Side.{side, mark, Closed}
use Rattle.feature_journal.specs.Whole.{Says, Idle}
use Rattle.feature_journal.specs.Nothing.{Unmade, Nothing, Unused, Empty, Dormant}
use Rattle.feature_journal.specs.Nothing.{Unmade as unmade}
use Rattle.feature_journal.specs.Nothing.Unused.{all_few, all_zero}
use Rattle.feature_journal.specs.Settled.{Placed, Known, Reading, SaysOr}
use Rattle.feature_journal.specs.Recover.{tail_in}
use Rattle.feature_journal.specs.Recover.{Recovered as recovered}
use Rattle.feature_journal.proofs.Recovered.{says_recovered}
use Rattle.recovery.proofs.Looking.{shown_chosen, shown_spare}
use Rattle.recovery.specs.declared.look.Ending.{Ending}
use Rattle.recovery.specs.declared.look.Found.{Found}
use Rattle.recovery.specs.Head.{IsStale}
use Rattle.recovery.specs.Choice.{IsResting, IsBeside}
use Rattle.recovery.specs.Choice.{IsResting as resting}
use Rattle.recovery.specs.Choice.{IsBeside as beside}
use Rattle.recovery.specs.Looked.{EndsAt, FoundAt, NothingAt, Kept, Untouched, Settles}
use Rattle.recovery.specs.Answer.{OnlyGates}
use Rattle.recovery.specs.Crash.{AllStable, AtStart, OnceSynced, OrTail, WithTail}
use Rattle.recovery.specs.Outcome.{Judge, outcome_of}
use Rattle.recovery.specs.Outcome.Outcome.{found}
use Rattle.recovery.proofs.Agrees.{agreed, recovers_found}
use Rattle.recovery.proofs.Finding.{idle_at, settled}
use Rattle.recovery.proofs.Writing.{same_on, gates_of}

found_same : (x y : Bool) (g h : ℕ) (t u : List (List ℕ)) (p q : ℕ) (k l : Option (List ℕ)) → recovered.found x g t p k ≡ recovered.found y h u q l → (x ≡ y) × (g ≡ h) × (t ≡ u) × (p ≡ q)
found_same x y g h t u p q k l e = (cc, cc, cc, cc)

-- what each image has, where a crash leaves just what is shown
pub every_shown : {D : Type 0} (shown : D → Option (List ℕ)) (images : D → List ℕ → Type 0) (d : D) (P : List ℕ → Type 0) → Every (images d) (λ x. shown d ≡ Some x) → IfSome (shown d) P → Every (images d) P
every_shown shown images d P stable p x here = at_some (shown d) P x (stable x here) p

-- where a side is known to be unmade, and rests
unused_of : (images : List ℕ → Type 0) (c : List ℕ) → IsResting false c → Every images (λ x. x ≡ c) → Unused images
unused_of images c (resting.stale own is st) all = absurd (cc is)
unused_of images c (resting.short is less) all = all_few (λ x here. subst (λ l. length l < 17) (sym (all x here)) less)
unused_of images c (resting.shut is b) all = all_zero (λ x here. subst (Begins (0 ∷ [])) (sym (all x here)) b)

pub unused_shown : {D : Type 0} (shown : D → Option (List ℕ)) (images : D → List ℕ → Type 0) (d : D) (tells : (c : List ℕ) → images d c → (s : List ℕ) × (shown d ≡ Some s)) → Every (images d) (λ x. shown d ≡ Some x) → IfSome (shown d) (IsResting false) → Unused (images d)
unused_shown shown images d tells stable rests = by_shown (shown d) refl rests
  where
    none : (o : Option (List ℕ)) → shown d ≡ o → o ≡ None → (x : List ℕ) → images d x → ⊥
    none o is no_one x here = let s = tells x here in absurd (cc (is, no_one, s.1))

    by_shown : (o : Option (List ℕ)) → shown d ≡ o → IfSome o (IsResting false) → Unused (images d)
    by_shown None is r = all_few (λ x here. absurd (none None is refl x here))
    by_shown (Some c) is r = unused_of (images d) c r (λ x here. let s = stable x here in cc)

module _ {D : Type 0} (shown : D → Option (List ℕ)) (images : D → List ℕ → Type 0) (tells : (d : D) (c : List ℕ) → images d c → (s : List ℕ) × (shown d ≡ Some s)) where
  idle_shown : (d : D) (is_b : Bool) (generation : ℕ) → Every (images d) (λ x. shown d ≡ Some x) → IfSome (shown d) (IsBeside false is_b generation) → Idle is_b generation (images d)
  idle_shown d is_b generation stable at = by_shown (shown d) refl at
    where
      none : (x : List ℕ) → shown d ≡ None → images d x → ⊥
      none x is here = let s = tells d x here in absurd (cc (is, s.1))

      by_shown : (o : Option (List ℕ)) → shown d ≡ o → IfSome o (IsBeside false is_b generation) → Idle is_b generation (images d)
      by_shown None is r = idle_at is_b generation [] (beside.rests (resting.short refl (omega arith))) (images d) (λ x here. absurd (none x is here))
      by_shown (Some c) is r = idle_at is_b generation c r (images d) (λ x here. let s = stable x here in cc)

  stable_chosen : (second : Bool) (disks : Pair D) → AllStable shown images disks disks → Every (images (chosen second disks)) (λ x. shown (chosen second disks) ≡ Some x)
  stable_chosen true disks s = s.b
  stable_chosen false disks s = s.a

  stable_spare : (second : Bool) (disks : Pair D) → AllStable shown images disks disks → Every (images (spare second disks)) (λ x. shown (spare second disks) ≡ Some x)
  stable_spare true disks s = s.a
  stable_spare false disks s = s.b

  closed_at : (e : Ending) (generation : ℕ) (taken : List (List ℕ)) (c : List ℕ) → EndsAt e generation taken c → e.is_closed ≡ true → Closed (side generation taken) c
  closed_at e generation taken c at is = subst (λ n. Begins (side generation taken ++ n ∷ []) c) (at.closed is) at.there.is

  -- what the settling of a side asks
  pub placed_of : (f : Found) (limit : ℕ) (taken : List (List ℕ)) (disks : Pair D) → AllStable shown images disks disks → FoundAt shown f limit taken disks → Placed images f.second f.gate f.is_stale f.is_closed f.generation taken disks
  placed_of f limit taken disks stable at = record {
    list = record { generation_fits = at.generation_fits; bodies_fit = at.bodies_fit };
    size = at.size;
    ends = λ x here. (ends x here).there;
    closed = λ is x here. closed_at e f.generation taken x (ends x here) is;
    idle = λ is. idle_shown (spare f.second disks) (not f.second) f.generation (stable_spare f.second disks stable) (subst (λ b. IfSome (shown (spare f.second disks)) (IsBeside b (not f.second) f.generation)) is at.other);
  }
    where
      e : Ending
      e = record { gate = f.gate; is_closed = f.is_closed }

      ends : Every (images (chosen f.second disks)) (EndsAt (record { gate = f.gate; is_closed = f.is_closed }) f.generation taken)
      ends = every_shown shown images (chosen f.second disks) (EndsAt (record { gate = f.gate; is_closed = f.is_closed }) f.generation taken) (stable_chosen f.second disks stable) at.current

  image_is : (d : D) (c : List ℕ) → Every (images d) (λ x. shown d ≡ Some x) → shown d ≡ Some c → Every (images d) (λ x. x ≡ c)
  image_is d c stable is x here = let s = stable x here in cc

  dormant_of : (is_stale : Bool) (d : D) (c : List ℕ) → Every (images d) (λ x. shown d ≡ Some x) → shown d ≡ Some c → IsResting is_stale c → Unmade c → Dormant is_stale (images d)
  dormant_of is_stale d c stable is rests un = record {
    unused = λ e. unused_of (images d) c (subst (λ b. IsResting b c) e rests) (image_is d c stable is);
    stale = λ e. stale_of e rests un;
  }
    where
      empty_of : (own : ℕ) → IsStale own c → Unmade c → (n : ℕ) × (n < 2 ^ 64) × Every (images d) (Empty n)
      empty_of own st (unmade.few less) = absurd (omega (arith, less, ap length st.marked.is.is))
      empty_of own st (unmade.zero_first b) = let there = st.marked.is.is in let here = b.is in absurd (st.not_closed (let e : st.marked.gate ≡ 0 = cc in e))
      empty_of own st (unmade.no_record gate n not_open fits b) = (n, fits, λ x here. record { gate = gate; not_open = not_open; is = subst (Begins (gate ∷ (mark ++ to_be_bytes w64 n ++ 0 ∷ []))) (sym (image_is d c stable is x here)) b })

      stale_of : is_stale ≡ true → IsResting is_stale c → Unmade c → (n : ℕ) × (n < 2 ^ 64) × Every (images d) (Empty n)
      stale_of e (resting.stale own is_it st) u = empty_of own st u
      stale_of e (resting.short is_not less) u = absurd (cc (e, is_not))
      stale_of e (resting.shut is_not b) u = absurd (cc (e, is_not))

  pub dormant_a : (s t : Bool) (disks : Pair D) (a b : List ℕ) → AllStable shown images disks disks → NothingAt shown s t disks → shown disks.a ≡ Some a → Unmade a → Dormant s (images disks.a)
  dormant_a s t disks a b stable at is un = dormant_of s disks.a a stable.a is (at_some (shown disks.a) (IsResting s) a is at.first) un

  pub dormant_b : (s t : Bool) (disks : Pair D) (a b : List ℕ) → AllStable shown images disks disks → NothingAt shown s t disks → shown disks.b ≡ Some b → Unmade b → Dormant t (images disks.b)
  dormant_b s t disks a b stable at is un = dormant_of t disks.b b stable.b is (at_some (shown disks.b) (IsResting t) b is at.second) un

  -- what the settling of two sides that say a list leaves
  pub found_goes : (moment : D → ℕ) (since : D → ℕ → List ℕ → Type 0) (judge : Judge) (limit : ℕ) (f : Found) (taken : List (List ℕ)) (disks new : Pair D) (lists : List (List (List ℕ))) (a b : List ℕ) (s : Says lists a b)
      → AllStable shown images disks disks → FoundAt shown f limit taken disks → shown disks.a ≡ Some a → shown disks.b ≡ Some b → outcome_of judge limit a b ≡ found f.second f.generation f.gate taken
      → ((r : Reading) → Known images f.second f.gate f.is_stale f.is_closed r disks → Always moment since (SaysOr f.is_closed r) disks new) → Always moment since (OrTail (tail_in s.ends) lists s.bodies) disks new
  found_goes moment since judge limit f taken disks new lists a b s stable at is_a is_b outcome goes =
      let w = agreed judge limit a b f.second f.generation f.gate taken outcome in
      let there = at_some (shown (chosen f.second disks)) (EndsAt (record { gate = f.gate; is_closed = f.is_closed }) f.generation taken) (cond f.second b a) (shown_chosen shown f.second disks a b is_a is_b) at.current in
      let aside = at_some (shown (spare f.second disks)) (IsBeside f.is_stale (not f.second) f.generation) (cond f.second a b) (shown_spare shown f.second disks a b is_a is_b) at.other in
      let same = found_same _ _ _ _ _ _ _ _ _ _ (sym (recovers_found a b f.second f.generation f.gate taken w) ∙ says_recovered lists a b s) in
      let second_is : f.second ≡ s.second = same.0 in
      let generation_is : f.generation ≡ s.generation = same.1 in
      let taken_is : taken ≡ s.bodies = same.2 in
      let size : length (side s.generation s.bodies) ≡ f.gate = omega (arith, same.3) in
      let ends = subst (λ t. EndsAt (record { gate = f.gate; is_closed = f.is_closed }) s.generation t (cond s.second b a)) taken_is
      (subst (λ g. EndsAt (record { gate = f.gate; is_closed = f.is_closed }) g taken (cond s.second b a)) generation_is
      (subst (λ x. EndsAt (record { gate = f.gate; is_closed = f.is_closed }) f.generation taken (cond x b a)) second_is there)) in
      let other = subst (λ g. IsBeside f.is_stale (not s.second) g (cond s.second a b)) generation_is (subst (λ x. IsBeside f.is_stale (not x) f.generation (cond x a b)) second_is aside) in
      settled moment since images lists s.second s.generation f.gate s.bodies (record { gate = f.gate; is_closed = f.is_closed }) f.is_stale disks new (cond s.second b a) (cond s.second a b) s.list s.one size s.ends s.beside ends other
      (image_is (chosen s.second disks) (cond s.second b a) (stable_chosen s.second disks stable) (shown_chosen shown s.second disks a b is_a is_b))
      (image_is (spare s.second disks) (cond s.second a b) (stable_spare s.second disks stable) (shown_spare shown s.second disks a b is_a is_b))
      (λ r k. goes r (subst (λ x. Known images x f.gate f.is_stale f.is_closed r disks) (sym second_is) k))

-- Two phases one after the other.
module _ {D : Type 0} (shown : D → Option (List ℕ)) (moment : D → ℕ) (since : D → ℕ → List ℕ → Type 0) (images : D → List ℕ → Type 0) where
  came : (old new : D) → Kept shown moment since images old new → (x : List ℕ) → since new (moment old) x → images old x
  came old new k x had = ⊎_elim (λ here. here) (λ come. subst (images old) (sym come.2) come.1) (k.crash.meanwhile x had)

  pub same_within : (P : List ℕ → List ℕ → Type 0) (old new : Pair D) → Untouched shown moment since images old new → ((x y : List ℕ) → images old.a x → images old.b y → P x y) → Within moment since P old new
  same_within P old new u all = record { a = u.a.crash.grows; b = u.b.crash.grows; each = λ x y had_a had_b. all x y (came old.a new.a u.a x had_a) (came old.b new.b u.b y had_b) }

  pub stable_kept : (old mid new : Pair D) → AllStable shown images old mid → (shown mid.a ≡ shown old.a) → (shown mid.b ≡ shown old.b) → Untouched shown moment since images mid new → AllStable shown images new new
  stable_kept old mid new s same_a same_b u = record {
    a = λ x here. let from = u.a.crash.now x here in let was = s.a from.0 from.1 in u.a.same ∙ same_a ∙ was ∙ ap Some (sym from.2);
    b = λ y here. let from = u.b.crash.now y here in let was = s.b from.0 from.1 in u.b.same ∙ same_b ∙ was ∙ ap Some (sym from.2);
  }

  -- all that is left is what was read
  pub read_within : (P : List ℕ → List ℕ → Type 0) (old mid new : Pair D) (a b : List ℕ) → AllStable shown images old mid → shown old.a ≡ Some a → shown old.b ≡ Some b → P a b → Untouched shown moment since images mid new → Within moment since P mid new
  read_within P old mid new a b s is_a is_b p u = same_within P mid new u (λ x y at_a at_b.
      let x_is : a ≡ x = let e = s.a x at_a in cc in
      let y_is : b ≡ y = let e = s.b y at_b in cc in
      subst (λ v. P v y) x_is (subst (λ v. P a v) y_is p))

pub or_tail_says : (last : Option (List ℕ)) (lists : List (List (List ℕ))) (bodies : List (List ℕ)) (x y : List ℕ) → Says lists x y → OrTail last lists bodies x y
or_tail_says None lists bodies x y says = says
or_tail_says (Some body) lists bodies x y says = inl says

module _ {D : Type 0} (shown : D → Option (List ℕ)) (moment : D → ℕ) (since : D → ℕ → List ℕ → Type 0) (images : D → List ℕ → Type 0) where
  -- both files were synced and read, and then this was done
  pub after_sync : (P : List ℕ → List ℕ → Type 0) (old read mid new : Pair D) (a b : List ℕ) → Within moment since (AtStart images old) old read → AllStable shown images old read → shown old.a ≡ Some a → shown old.b ≡ Some b → P a b
      → Untouched shown moment since images read mid → Always moment since P mid new → OnceSynced shown moment since images P old new
  after_sync P old read mid new a b within stable is_a is_b p untouched rest = (read, within, stable, link read mid new (read_within shown moment since images P old read mid a b stable is_a is_b p untouched) rest)

-- Both files were synced, from old to mid, and then read.
pub record Read {D : Type 0} (shown : D → Option (List ℕ)) (moment : D → ℕ) (since : D → ℕ → List ℕ → Type 0) (images : D → List ℕ → Type 0) (old mid read : Pair D) : Type 0 where
  pub within : Within moment since (AtStart images old) old mid
  pub stable : AllStable shown images old mid
  pub synced : Untouched shown moment since images old mid
  pub untouched : Untouched shown moment since images mid read

module _ {D : Type 0} (shown : D → Option (List ℕ)) (moment : D → ℕ) (since : D → ℕ → List ℕ → Type 0) (images : D → List ℕ → Type 0) where
  pub read_of : (old mid read : Pair D) → Within moment since (AtStart images old) old mid → Every (images mid.a) (λ x. shown old.a ≡ Some x) × Every (images mid.b) (λ y. shown old.b ≡ Some y)
      → Leads moment since images Same old.a mid.a × Leads moment since images Same old.b mid.b → (shown mid.a ≡ shown old.a) × (shown mid.b ≡ shown old.b) → Untouched shown moment since images mid read → Read shown moment since images old mid read
  read_of old mid read within stable crash same untouched = record {
    within = within;
    stable = record { a = stable.0; b = stable.1 };
    synced = record { a = record { same = same.0; crash = crash.0 }; b = record { same = same.1; crash = crash.1 } };
    untouched = untouched;
  }

  -- what was read is still there
  nothing_kept : (s t : Bool) (mid read : Pair D) → Untouched shown moment since images mid read → NothingAt shown s t mid → NothingAt shown s t read
  nothing_kept s t mid read u at = record { first = subst (λ o. IfSome o (IsResting s)) (sym u.a.same) at.first; second = subst (λ o. IfSome o (IsResting t)) (sym u.b.same) at.second }

  chosen_kept : (second : Bool) (mid read : Pair D) → Untouched shown moment since images mid read → shown (chosen second read) ≡ shown (chosen second mid)
  chosen_kept true mid read u = u.b.same
  chosen_kept false mid read u = u.a.same

  spare_kept : (second : Bool) (mid read : Pair D) → Untouched shown moment since images mid read → shown (spare second read) ≡ shown (spare second mid)
  spare_kept true mid read u = u.a.same
  spare_kept false mid read u = u.b.same

  pub found_kept : (f : Found) (limit : ℕ) (taken : List (List ℕ)) (mid read : Pair D) → Untouched shown moment since images mid read → FoundAt shown f limit taken mid → FoundAt shown f limit taken read
  found_kept f limit taken mid read u at = record {
    generation_fits = at.generation_fits;
    bodies_fit = at.bodies_fit;
    size = at.size;
    within = at.within;
    current = subst (λ o. IfSome o (EndsAt (record { gate = f.gate; is_closed = f.is_closed }) f.generation taken)) (sym (chosen_kept f.second mid read u)) at.current;
    other = subst (λ o. IfSome o (IsBeside f.is_stale (not f.second) f.generation)) (sym (spare_kept f.second mid read u)) at.other;
  }

  module _ (tells : (d : D) (c : List ℕ) → images d c → (s : List ℕ) × (shown d ≡ Some s)) (old mid read new : Pair D) (p : Read shown moment since images old mid read) (a b : List ℕ) (is_a : shown old.a ≡ Some a) (is_b : shown old.b ≡ Some b) where
    abbrev still : AllStable shown images read read
    still = stable_kept shown moment since images old mid read p.stable p.synced.a.same p.synced.b.same p.untouched

    abbrev there_a : shown read.a ≡ Some a
    there_a = p.untouched.a.same ∙ p.synced.a.same ∙ is_a

    abbrev there_b : shown read.b ≡ Some b
    there_b = p.untouched.b.same ∙ p.synced.b.same ∙ is_b

    pub nothing_goes : (s t : Bool) → NothingAt shown s t mid → Unmade a → Unmade b → (Dormant s (images read.a) → Dormant t (images read.b) → Always moment since Nothing read new) → OnceSynced shown moment since images Nothing old new
    nothing_goes s t at un_a un_b goes =
        let here = nothing_kept s t mid read p.untouched at in
        after_sync shown moment since images Nothing old mid read new a b p.within p.stable is_a is_b (inl (un_a, un_b)) p.untouched
        (goes (dormant_a shown images tells s t read a b still here there_a un_a) (dormant_b shown images tells s t read a b still here there_b un_b))

    pub tail_goes : (judge : Judge) (limit : ℕ) (f : Found) (taken : List (List ℕ)) (lists : List (List (List ℕ))) (s : Says lists a b) → FoundAt shown f limit taken mid → outcome_of judge limit a b ≡ found f.second f.generation f.gate taken
        → ((r : Reading) → Known images f.second f.gate f.is_stale f.is_closed r read → Always moment since (SaysOr f.is_closed r) read new) → OnceSynced shown moment since images (WithTail lists s) old new
    tail_goes judge limit f taken lists s at outcome goes =
        after_sync shown moment since images (WithTail lists s) old mid read new a b p.within p.stable is_a is_b (or_tail_says (tail_in s.ends) lists s.bodies a b s) p.untouched
        (found_goes shown images tells moment since judge limit f taken read new lists a b s still (found_kept f limit taken mid read p.untouched at) there_a there_b outcome goes)

    pub gates_goes : (counts : (d : D) (t : ℕ) (c : List ℕ) → t ≤ moment d → images d c → since d t c) (only : (d : D) (c : List ℕ) → since d (moment d) c → images d c) (judge : Judge) (limit : ℕ) (f : Found) (taken : List (List ℕ)) → FoundAt shown f limit taken mid
        → outcome_of judge limit a b ≡ found f.second f.generation f.gate taken → Settles moment since images f read new → OnlyGates shown moment since images (outcome_of judge limit a b) a b old new
    gates_goes counts only judge limit f taken at outcome settles =
        let first = same_on shown moment since images counts only in
        subst (λ o. OnlyGates shown moment since images o a b old new) (sym outcome)
        (gates_of shown moment since images counts only f limit taken old read new a b (first old.a mid.a read.a p.synced.a.crash p.untouched.a.crash) (first old.b mid.b read.b p.synced.b.crash p.untouched.b.crash)
        (found_kept f limit taken mid read p.untouched at) there_a there_b settles)

-- what is said of an answer
pub ok_map : {T E : Type 0} (r : Result T E) (P Q : T → Type 0) → ((x : T) → P x → Q x) → IfOk r P → IfOk r Q
ok_map (Ok x) P Q f p = f x p
ok_map (Err e) P Q f p = tt

pub err_map : {T E : Type 0} (r : Result T E) (P Q : E → Type 0) → ((e : E) → P e → Q e) → IfErr r P → IfErr r Q
err_map (Ok x) P Q f p = tt
err_map (Err e) P Q f p = f e p

pub every_ok : {T E : Type 0} (r : Result T E) (Q : T → Type 0) → ((x : T) → Q x) → IfOk r Q
every_ok (Ok x) Q f = f x
every_ok (Err e) Q f = tt

pub every_err : {T E : Type 0} (r : Result T E) (Q : E → Type 0) → ((e : E) → Q e) → IfErr r Q
every_err (Ok x) Q f = tt
every_err (Err e) Q f = f e
