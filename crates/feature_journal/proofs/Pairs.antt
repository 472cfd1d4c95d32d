-- From one side to both.
use Rattle.std.proofs.Common.{◌≡◌, inl, inr, ⊎_elim, ℕ, ◌+◌, ◌≤◌, List, [], ◌∷◌, ◌++◌, length, Bool, true, false, not, refl, sym, ap, subst, arith, length-append, cond}
use Rattle.disk_core.specs.Disk.{Grows, Goes, Every}
use Rattle.disk_core.specs.Sides.{Within, EveryBoth, chosen, spare}
use Rattle.disk_core.proofs.Runs.{grows_still}
use Rattle.disk_core.specs.declared.pair.Pair.{Pair}
use Rattle.feature_journal.specs.declared.side.Append.{Append}
use Rattle.feature_journal.specs.declared.side.Append.TheVariants.{Done, Clean}
use Rattle.feature_journal.specs.declared.side.Append.TheVariants as outcomes
use Rattle.feature_journal.specs.Side.{side, framed, opened, Closed, Begun, ClosedOrBegun}
use Rattle.feature_journal.specs.Outcome.{After}
use Rattle.feature_journal.specs.Whole.{Fits, Says, Harmless, Idle, IsList}
use Rattle.feature_journal.specs.Held.{Held, HeldClosed, HeldBegun, AfterBoth, With}
use Rattle.feature_journal.specs.Whole.{OneOf, Ends, Stale}
use Rattle.feature_journal.specs.Side.{Gate}
use Rattle.feature_journal.proofs.Stale.{stale_says}
use Rattle.feature_journal.proofs.Whole.{idle_harmless, says_closed, says_with, side_push, list_push}

pub length-framed : (body : List ℕ) → length (framed body) ≡ 4 + length body
unfolding framed
length-framed body = omega arith

pub says_some : (second : Bool) (generation : ℕ) (bodies : List (List ℕ)) (body : List ℕ) (a b : List ℕ) → IsList generation bodies → Fits body → Harmless (not second) generation [] (cond second a b) → ClosedOrBegun (side generation bodies) body (cond second b a) → With bodies body a b
says_some second generation bodies body a b list fits beside ends =
    ⊎_elim (λ closed. inl (says_closed second generation bodies list a b beside closed)) (λ begun. says_with second generation bodies list a b beside body fits begun) ends

module _ {D : Type 0} (moment : D → ℕ) (since : D → ℕ → List ℕ → Type 0) (images : D → List ℕ → Type 0)
    (counts : (d : D) (t : ℕ) (c : List ℕ) → t ≤ moment d → images d c → since d t c) (only : (d : D) (c : List ℕ) → since d (moment d) c → images d c) where
  pub still : (x y : D) → y ≡ x → Grows moment since x y
  still x y same = subst (λ z. Grows moment since x z) (sym same) (grows_still moment since images x (counts x) (only x))

  pub unmoved : (x y : D) (c : List ℕ) → y ≡ x → since y (moment x) c → images x c
  unmoved x y c same had = only x c (subst (λ z. since z (moment x) c) same had)

  -- what each image of the chosen side goes through, from what is held
  pub held_goes : (second : Bool) (generation gate : ℕ) (bodies : List (List ℕ)) (body : List ℕ) (P : List ℕ → List ℕ → Type 0) (old new : Pair D) → Fits body → Held images second generation gate bodies P old
      → Goes moment since (ClosedOrBegun (side generation bodies) body) (chosen second old) (chosen second new) → spare second new ≡ spare second old → Within moment since (With bodies body) old new
  held_goes true generation gate bodies body P old new fits held goes same = record {
    a = still old.a new.a same;
    b = goes.grows;
    each = λ x y had_a had_b. says_some true generation bodies body x y held.list fits (idle_harmless _ _ _ held.beside x (unmoved old.a new.a x same had_a)) (goes.each y had_b);
  }
  held_goes false generation gate bodies body P old new fits held goes same = record {
    a = goes.grows;
    b = still old.b new.b same;
    each = λ x y had_a had_b. says_some false generation bodies body x y held.list fits (idle_harmless _ _ _ held.beside y (unmoved old.b new.b y same had_b)) (goes.each x had_a);
  }

  -- the same, where the gate stays closed
  pub closed_goes : (second : Bool) (generation gate : ℕ) (bodies : List (List ℕ)) (old new : Pair D) → HeldClosed images second generation gate bodies old
      → Goes moment since (Closed (side generation bodies)) (chosen second old) (chosen second new) → spare second new ≡ spare second old → Within moment since (Says (bodies ∷ [])) old new
  closed_goes true generation gate bodies old new held goes same = record {
    a = still old.a new.a same;
    b = goes.grows;
    each = λ x y had_a had_b. says_closed true generation bodies held.list x y (idle_harmless _ _ _ held.beside x (unmoved old.a new.a x same had_a)) (goes.each y had_b);
  }
  closed_goes false generation gate bodies old new held goes same = record {
    a = goes.grows;
    b = still old.b new.b same;
    each = λ x y had_a had_b. says_closed false generation bodies held.list x y (idle_harmless _ _ _ held.beside y (unmoved old.b new.b y same had_b)) (goes.each x had_a);
  }

  -- where no call is made
  pub held_still : (second : Bool) (generation gate : ℕ) (bodies : List (List ℕ)) (body : List ℕ) (disks : Pair D) → HeldClosed images second generation gate bodies disks → Within moment since (With bodies body) disks disks
  held_still true generation gate bodies body disks held = record {
    a = still disks.a disks.a refl;
    b = still disks.b disks.b refl;
    each = λ x y had_a had_b. inl (says_closed true generation bodies held.list x y (idle_harmless _ _ _ held.beside x (only disks.a x had_a)) (held.ends y (only disks.b y had_b)));
  }
  held_still false generation gate bodies body disks held = record {
    a = still disks.a disks.a refl;
    b = still disks.b disks.b refl;
    each = λ x y had_a had_b. inl (says_closed false generation bodies held.list x y (idle_harmless _ _ _ held.beside y (only disks.b y had_b)) (held.ends x (only disks.a x had_a)));
  }

module _ {D : Type 0} (images : D → List ℕ → Type 0) where
  -- what is held, with another thing behind the same list
  pub held_now : (second : Bool) (generation gate : ℕ) (bodies : List (List ℕ)) (P Q : List ℕ → List ℕ → Type 0) (old new : Pair D) → Held images second generation gate bodies P old
      → Every (images (chosen second new)) (Q (side generation bodies)) → spare second new ≡ spare second old → Held images second generation gate bodies Q new
  held_now second generation gate bodies P Q old new held ends same =
      record { list = held.list; size = held.size; ends = ends; beside = subst (λ d. Idle (not second) generation (images d)) (sym same) held.beside }

  pub held_more : (second : Bool) (generation gate : ℕ) (bodies : List (List ℕ)) (body : List ℕ) (P : List ℕ → List ℕ → Type 0) (old new : Pair D) → Fits body → Held images second generation gate bodies P old
      → Every (images (chosen second new)) (Closed (side generation bodies ++ opened body)) → spare second new ≡ spare second old → HeldClosed images second generation (gate + 5 + length body) (bodies ++ body ∷ []) new
  held_more second generation gate bodies body P old new fits held ends same =
      let longer = side_push generation bodies body in
      record {
        list = list_push generation bodies body held.list fits;
        size = omega (arith, ap length longer, length-append (side generation bodies) (opened body), held.size, length-framed body);
        ends = subst (λ front. Every (images (chosen second new)) (Closed front)) (sym longer) ends;
        beside = subst (λ d. Idle (not second) generation (images d)) (sym same) held.beside;
      }

  pub held_after : (second : Bool) (generation gate : ℕ) (bodies : List (List ℕ)) (body : List ℕ) (outcome : Append) (old new : Pair D) → Fits body → HeldClosed images second generation gate bodies old
      → Every (images (chosen second new)) (After outcome (side generation bodies) body) → spare second new ≡ spare second old → AfterBoth images second generation gate bodies body outcome new
  held_after second generation gate bodies body Done old new fits held ends same = held_more second generation gate bodies body Closed old new fits held ends same
  held_after second generation gate bodies body Clean old new fits held ends same = held_now second generation gate bodies Closed Closed old new held ends same
  held_after second generation gate bodies body outcomes.Begun old new fits held ends same = held_now second generation gate bodies Closed (λ front. Begun front body) old new held ends same

module _ {D : Type 0} (moment : D → ℕ) (since : D → ℕ → List ℕ → Type 0) (images : D → List ℕ → Type 0)
    (counts : (d : D) (t : ℕ) (c : List ℕ) → t ≤ moment d → images d c → since d t c) (only : (d : D) (c : List ℕ) → since d (moment d) c → images d c) where
  -- byte 0 of the spare side goes through anything
  pub quiet_goes : (second : Bool) (generation : ℕ) (lists : List (List (List ℕ))) (bodies : List (List ℕ)) (text : List ℕ) (old new : Pair D) → IsList generation bodies → OneOf lists bodies
      → Every (images (chosen second old)) (Ends (side generation bodies)) → Stale (not second) generation lists text → Goes moment since (Gate [] text) (spare second old) (spare second new) → chosen second new ≡ chosen second old
      → Within moment since (Says lists) old new
  quiet_goes true generation lists bodies text old new list one ends stale goes same = record {
    a = goes.grows;
    b = still moment since images counts only old.b new.b same;
    each = λ x y had_a had_b. stale_says true generation lists bodies text x y list one (ends y (unmoved moment since images counts only old.b new.b y same had_b)) stale (goes.each x had_a);
  }
  quiet_goes false generation lists bodies text old new list one ends stale goes same = record {
    a = still moment since images counts only old.a new.a same;
    b = goes.grows;
    each = λ x y had_a had_b. stale_says false generation lists bodies text x y list one (ends x (unmoved moment since images counts only old.a new.a x same had_a)) stale (goes.each y had_b);
  }

pub held_says : {D : Type 0} (images : D → List ℕ → Type 0) (second : Bool) (generation gate : ℕ) (bodies : List (List ℕ)) (disks : Pair D) → HeldClosed images second generation gate bodies disks → EveryBoth images (Says (bodies ∷ [])) disks
held_says images true generation gate bodies disks held x y at_a at_b = says_closed true generation bodies held.list x y (idle_harmless _ _ _ held.beside x at_a) (held.ends y at_b)
held_says images false generation gate bodies disks held x y at_a at_b = says_closed false generation bodies held.list x y (idle_harmless _ _ _ held.beside y at_b) (held.ends x at_a)

module _ {D : Type 0} (moment : D → ℕ) (since : D → ℕ → List ℕ → Type 0) (images : D → List ℕ → Type 0)
    (counts : (d : D) (t : ℕ) (c : List ℕ) → t ≤ moment d → images d c → since d t c) (only : (d : D) (c : List ℕ) → since d (moment d) c → images d c) where
  -- where no call is made
  pub within_still : (P : List ℕ → List ℕ → Type 0) (disks : Pair D) → ((x y : List ℕ) → images disks.a x → images disks.b y → P x y) → Within moment since P disks disks
  within_still P disks all = record {
    a = still moment since images counts only disks.a disks.a refl;
    b = still moment since images counts only disks.b disks.b refl;
    each = λ x y had_a had_b. all x y (only disks.a x had_a) (only disks.b y had_b);
  }

pub begun_says : {D : Type 0} (images : D → List ℕ → Type 0) (second : Bool) (generation gate : ℕ) (bodies : List (List ℕ)) (body : List ℕ) (disks : Pair D) → Fits body → HeldBegun images second generation gate bodies body disks → EveryBoth images (With bodies body) disks
begun_says images true generation gate bodies body disks fits held x y at_a at_b = says_some true generation bodies body x y held.list fits (idle_harmless _ _ _ held.beside x at_a) (inr (held.ends y at_b))
begun_says images false generation gate bodies body disks fits held x y at_a at_b = says_some false generation bodies body x y held.list fits (idle_harmless _ _ _ held.beside y at_b) (inr (held.ends x at_a))
