-- What is written, in the words of what was read.
use Rattle.std.proofs.Common.{◌≡◌, ◌⊎◌, ◌≤◌, inl, inr, ℕ, ◌<◌, List, [], ◌∷◌, ◌++◌, length, get_or, drop, refl, sym, ◌∙◌, ap, subst, arith, append_assoc, Option, Some, Bool, true, false, not, cond}
use Rattle.std.proofs.lemmas.List.{drop_at, get_or-drop}
use Rattle.disk_core.specs.Disk.{Leads, Same, Torn}
use Rattle.disk_core.specs.StoryLaws.{torn_none}
use Rattle.disk_core.specs.Sides.{chosen, spare}
use Rattle.disk_core.specs.declared.pair.Pair.{Pair}
use Rattle.disk_core.proofs.Runs.{leads_on, leads_more, leads_still}
use Rattle.disk_core.proofs.Seen.{at_some}
use Rattle.feature_journal.specs.Side.{side}
use Rattle.recovery.proofs.Looking.{shown_chosen, shown_spare}
use Rattle.recovery.specs.declared.look.Ending.{Ending}
use Rattle.recovery.specs.declared.look.Found.{Found}
use Rattle.recovery.specs.Head.{IsStale}
use Rattle.recovery.specs.Choice.{IsBeside}
use Rattle.recovery.specs.Choice.{IsResting as resting}
use Rattle.recovery.specs.Choice.{IsBeside as beside}
use Rattle.recovery.specs.Looked.{EndsAt, FoundAt, Untouched, Settles}
use Rattle.recovery.specs.Outcome.{Outcome}
use Rattle.recovery.specs.Outcome.Outcome.{refused, no_side, found}
use Rattle.recovery.specs.Answer.{Gates, OnlyGates}

byte_at : (front rest c : List ℕ) (gate x : ℕ) → length front ≡ gate → c ≡ (front ++ x ∷ []) ++ rest → get_or c gate 1 ≡ x
byte_at front rest c gate x size is =
    let there : drop gate c ≡ x ∷ rest = ap (drop gate) (is ∙ append_assoc front (x ∷ []) rest) ∙ drop_at front (x ∷ rest) gate size in
    ap (λ (n : ℕ). get_or c n 1) (omega arith) ∙ sym (get_or-drop gate c 0 1) ∙ ap (λ (l : List ℕ). get_or l 0 1) there

closed_by : (e : Ending) (generation gate : ℕ) (taken : List (List ℕ)) (c : List ℕ) (x : Bool) → e.is_closed ≡ x → length (side generation taken) ≡ gate → EndsAt e generation taken c → get_or c gate 1 ≡ 0 → e.is_closed ≡ true
closed_by e generation gate taken c true is size at zero_byte = is
closed_by e generation gate taken c false is size at zero_byte = absurd (at.not_closed is (sym (byte_at (side generation taken) at.there.is.rest c gate at.there.byte size at.there.is.is) ∙ zero_byte))

stale_left : (own : ℕ) (c : List ℕ) → IsStale own c → (length c < 17) ⊎ ((get_or c 0 2 ≡ 0) ⊎ (get_or c 0 2 ≡ 1)) → ⊥
stale_left own c st (inl less) = omega (arith, less, ap length st.marked.is.is)
stale_left own c st (inr (inl shut)) = st.not_closed (sym (ap (λ (l : List ℕ). get_or l 0 2) st.marked.is.is) ∙ shut)
stale_left own c st (inr (inr open_byte)) = st.not_open (sym (ap (λ (l : List ℕ). get_or l 0 2) st.marked.is.is) ∙ open_byte)

fresh_by : (is_stale is_b : Bool) (generation : ℕ) (c : List ℕ) → IsBeside is_stale is_b generation c → (length c < 17) ⊎ ((get_or c 0 2 ≡ 0) ⊎ (get_or c 0 2 ≡ 1)) → is_stale ≡ false
fresh_by is_stale is_b generation c (beside.rests (resting.stale own is st)) still = absurd (stale_left own c st still)
fresh_by is_stale is_b generation c (beside.rests (resting.short is less)) still = is
fresh_by is_stale is_b generation c (beside.rests (resting.shut is b)) still = is
fresh_by is_stale is_b generation c (beside.older own is less able) still = is
fresh_by is_stale is_b generation c (beside.tied is second able) still = is

module _ {D : Type 0} (shown : D → Option (List ℕ)) (moment : D → ℕ) (since : D → ℕ → List ℕ → Type 0) (images : D → List ℕ → Type 0)
    (counts : (d : D) (t : ℕ) (c : List ℕ) → t ≤ moment d → images d c → since d t c) (only : (d : D) (c : List ℕ) → since d (moment d) c → images d c) where
  -- from the start, over a sync and a look
  after : (step : List ℕ → List ℕ → Type 0) (x y z : D) → ((c : List ℕ) → step c c) → Leads moment since images Same x y → Leads moment since images step y z → Leads moment since images step x z
  after step x y z still same more = leads_on moment since images Same step step x y z (λ d e c is done. subst (λ v. step v c) is done) (λ d c is. subst (step d) (sym is) (still d)) same more

  same_chosen : (second : Bool) (old new : Pair D) → Leads moment since images Same old.a new.a → Leads moment since images Same old.b new.b → Leads moment since images Same (chosen second old) (chosen second new)
  same_chosen true old new a b = b
  same_chosen false old new a b = a

  same_spare : (second : Bool) (old new : Pair D) → Leads moment since images Same old.a new.a → Leads moment since images Same old.b new.b → Leads moment since images Same (spare second old) (spare second new)
  same_spare true old new a b = a
  same_spare false old new a b = b

  pub same_on : (x y z : D) → Leads moment since images Same x y → Leads moment since images Same y z → Leads moment since images Same x z
  same_on x y z first second = after Same x y z (λ c. refl) first second

  -- where nothing was written, no more than gates was
  pub unwritten : (o : Outcome) (old new : Pair D) (a b : List ℕ) → Untouched shown moment since images old new → OnlyGates shown moment since images o a b old new
  unwritten (refused fault bodies) old new a b u = u
  unwritten no_side old new a b u = tt
  unwritten (found second generation gate bodies) old new a b u = record {
    current = leads_more moment since images Same (Torn gate 1) (chosen second old) (chosen second new) (λ d c is. subst (Torn gate 1 d) (sym is) (torn_none gate 1 d)) (same_chosen second old new u.a.crash u.b.crash);
    current_closed = λ zero_byte. same_chosen second old new u.a.crash u.b.crash;
    other = leads_more moment since images Same (Torn 0 1) (spare second old) (spare second new) (λ d c is. subst (Torn 0 1 d) (sym is) (torn_none 0 1 d)) (same_spare second old new u.a.crash u.b.crash);
    other_left = λ still. same_spare second old new u.a.crash u.b.crash;
  }

  pub untouched_on : (old mid new : Pair D) → Untouched shown moment since images old mid → Untouched shown moment since images mid new → Untouched shown moment since images old new
  untouched_on old mid new u v = record {
    a = record { same = v.a.same ∙ u.a.same; crash = same_on old.a mid.a new.a u.a.crash v.a.crash };
    b = record { same = v.b.same ∙ u.b.same; crash = same_on old.b mid.b new.b u.b.crash v.b.crash };
  }

  pub gates_of : (f : Found) (limit : ℕ) (taken : List (List ℕ)) (first old new : Pair D) (a b : List ℕ) → Leads moment since images Same first.a old.a → Leads moment since images Same first.b old.b → FoundAt shown f limit taken old → shown old.a ≡ Some a → shown old.b ≡ Some b
      → Settles moment since images f old new → Gates moment since images f.second f.gate a b first new
  gates_of f limit taken first old new a b same_a same_b at is_a is_b s =
      let here = at_some (shown (chosen f.second old)) (EndsAt (record { gate = f.gate; is_closed = f.is_closed }) f.generation taken) (cond f.second b a) (shown_chosen shown f.second old a b is_a is_b) at.current in
      let there = at_some (shown (spare f.second old)) (IsBeside f.is_stale (not f.second) f.generation) (cond f.second a b) (shown_spare shown f.second old a b is_a is_b) at.other in
      record {
        current = after (Torn f.gate 1) _ _ _ (λ c. torn_none f.gate 1 c) (same_chosen f.second first old same_a same_b) s.current;
        current_closed = λ zero_byte. after Same _ _ _ (λ c. refl) (same_chosen f.second first old same_a same_b) (s.current_closed (closed_by (record { gate = f.gate; is_closed = f.is_closed }) f.generation f.gate taken (cond f.second b a) f.is_closed refl at.size here zero_byte));
        other = after (Torn 0 1) _ _ _ (λ c. torn_none 0 1 c) (same_spare f.second first old same_a same_b) s.other;
        other_left = λ still. after Same _ _ _ (λ c. refl) (same_spare f.second first old same_a same_b)
            (leads_still moment since images Same (spare f.second old) (spare f.second new) (counts (spare f.second old)) (only (spare f.second old)) (λ c. refl) (s.other_left (fresh_by f.is_stale (not f.second) f.generation (cond f.second a b) there still)));
      }
