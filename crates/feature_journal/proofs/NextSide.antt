-- What the making of a side comes to for both.
use Rattle.std.proofs.Common.{◌≡◌, inl, inr, ⊎_elim, ℕ, ◌+◌, ◌≤◌, List, [], ◌∷◌, ◌++◌, length, Bool, true, false, not, cond, refl, sym, subst, arith}
use Rattle.disk_core.specs.Disk.{Goes, Every, Begins}
use Rattle.disk_core.specs.Sides.{Within, EveryBoth, chosen, spare}
use Rattle.disk_core.specs.declared.pair.Pair.{Pair}
use Rattle.feature_journal.specs.Side.{side, Closed, Gate}
use Rattle.feature_journal.specs.Whole.{IsList, Harmless, HarmlessOr, Idle, Says, Stale}
use Rattle.feature_journal.specs.Whole.Idle.{idle_older}
use Rattle.feature_journal.specs.Whole.Ends.{closed}
use Rattle.feature_journal.specs.Whole.Stale.{stale_greater}
use Rattle.feature_journal.specs.Held.{HeldClosed}
use Rattle.feature_journal.specs.Making.{inner}
use Rattle.feature_journal.proofs.Whole.{says_closed}
use Rattle.feature_journal.proofs.Knowing.{says_more}
use Rattle.feature_journal.proofs.Stale.{stale_says, marked_head, opened_again}
use Rattle.feature_journal.proofs.Pairs.{still, unmoved}

-- what stands behind byte 0 of a side that was made
pub next_stale : (is_b : Bool) (generation : ℕ) (bodies added : List (List ℕ)) → IsList (generation + 1) added → Stale is_b generation (bodies ∷ added ∷ []) (inner (generation + 1) added ++ 0 ∷ [])
next_stale is_b generation bodies added list = stale_greater (generation + 1) added list (inr (inl refl)) (inl (omega arith)) refl

pub both_says : (second : Bool) (generation : ℕ) (bodies added : List (List ℕ)) (a b : List ℕ) → IsList generation bodies → IsList (generation + 1) added → Closed (side generation bodies) (cond second b a)
    → HarmlessOr (not second) generation (Gate [] (inner (generation + 1) added ++ 0 ∷ [])) (cond second a b) → Says (bodies ∷ added ∷ []) a b
both_says second generation bodies added a b list next ends beside =
    ⊎_elim (λ harmless. says_more (bodies ∷ added ∷ []) bodies a b (inl refl) (says_closed second generation bodies list a b harmless ends))
    (λ gate. stale_says second generation (bodies ∷ added ∷ []) bodies (inner (generation + 1) added ++ 0 ∷ []) a b list (inl refl) (closed ends) (next_stale (not second) generation bodies added next) gate) beside

module _ {D : Type 0} (moment : D → ℕ) (since : D → ℕ → List ℕ → Type 0) (images : D → List ℕ → Type 0)
    (counts : (d : D) (t : ℕ) (c : List ℕ) → t ≤ moment d → images d c → since d t c) (only : (d : D) (c : List ℕ) → since d (moment d) c → images d c) where
  -- the side that is not current goes through what does no harm
  pub spare_goes : (second : Bool) (generation gate : ℕ) (bodies : List (List ℕ)) (old new : Pair D) → HeldClosed images second generation gate bodies old
      → Goes moment since (Harmless (not second) generation []) (spare second old) (spare second new) → chosen second new ≡ chosen second old → Within moment since (Says (bodies ∷ [])) old new
  spare_goes true generation gate bodies old new held goes same = record {
    a = goes.grows;
    b = still moment since images counts only old.b new.b same;
    each = λ x y had_a had_b. says_closed true generation bodies held.list x y (goes.each x had_a) (held.ends y (unmoved moment since images counts only old.b new.b y same had_b));
  }
  spare_goes false generation gate bodies old new held goes same = record {
    a = still moment since images counts only old.a new.a same;
    b = goes.grows;
    each = λ x y had_a had_b. says_closed false generation bodies held.list x y (goes.each y had_b) (held.ends x (unmoved moment since images counts only old.a new.a x same had_a));
  }

  -- or through any byte 0 of the side that was made
  pub both_goes : (second : Bool) (generation : ℕ) (bodies added : List (List ℕ)) (old new : Pair D) → IsList generation bodies → IsList (generation + 1) added → Every (images (chosen second old)) (Closed (side generation bodies))
      → Goes moment since (HarmlessOr (not second) generation (Gate [] (inner (generation + 1) added ++ 0 ∷ []))) (spare second old) (spare second new) → chosen second new ≡ chosen second old → Within moment since (Says (bodies ∷ added ∷ [])) old new
  both_goes true generation bodies added old new list next ends goes same = record {
    a = goes.grows;
    b = still moment since images counts only old.b new.b same;
    each = λ x y had_a had_b. both_says true generation bodies added x y list next (ends y (unmoved moment since images counts only old.b new.b y same had_b)) (goes.each x had_a);
  }
  both_goes false generation bodies added old new list next ends goes same = record {
    a = still moment since images counts only old.a new.a same;
    b = goes.grows;
    each = λ x y had_a had_b. both_says false generation bodies added x y list next (ends x (unmoved moment since images counts only old.a new.a x same had_a)) (goes.each y had_b);
  }

module _ {D : Type 0} (images : D → List ℕ → Type 0) where
  pub beside_now : (second : Bool) (generation gate : ℕ) (bodies : List (List ℕ)) (old new : Pair D) → HeldClosed images second generation gate bodies old → Idle (not second) generation (images (spare second new)) → chosen second new ≡ chosen second old
      → HeldClosed images second generation gate bodies new
  beside_now second generation gate bodies old new held idle same = record { list = held.list; size = held.size; ends = subst (λ d. Every (images d) (Closed (side generation bodies))) (sym same) held.ends; beside = idle }

  -- the side that was made is current
  pub turned : (second : Bool) (generation place : ℕ) (bodies added : List (List ℕ)) (old new : Pair D) → IsList (generation + 1) added → length (side (generation + 1) added) ≡ place → Every (images (chosen second old)) (Closed (side generation bodies))
      → Every (images (spare second new)) (Begins (1 ∷ (inner (generation + 1) added ++ 0 ∷ []))) → chosen second new ≡ chosen second old → HeldClosed images (not second) (generation + 1) place added new
  turned true generation place bodies added old new next size ends made same = record {
    list = next;
    size = size;
    ends = λ c here. opened_again (generation + 1) added c (made c here);
    beside = idle_older generation (omega arith) (λ c here. marked_head generation bodies c (closed (ends c (subst (λ d. images d c) same here))));
  }
  turned false generation place bodies added old new next size ends made same = record {
    list = next;
    size = size;
    ends = λ c here. opened_again (generation + 1) added c (made c here);
    beside = idle_older generation (omega arith) (λ c here. marked_head generation bodies c (closed (ends c (subst (λ d. images d c) same here))));
  }

pub side_says : {D : Type 0} (images : D → List ℕ → Type 0) (second : Bool) (generation : ℕ) (bodies added : List (List ℕ)) (disks : Pair D) → IsList generation bodies → IsList (generation + 1) added → Every (images (chosen second disks)) (Closed (side generation bodies))
    → Every (images (spare second disks)) (Gate [] (inner (generation + 1) added ++ 0 ∷ [])) → EveryBoth images (Says (bodies ∷ added ∷ [])) disks
side_says images true generation bodies added disks list next ends beside x y at_a at_b = both_says true generation bodies added x y list next (ends y at_b) (inr (beside x at_a))
side_says images false generation bodies added disks list next ends beside x y at_a at_b = both_says false generation bodies added x y list next (ends x at_a) (inr (beside y at_b))
