-- The first side that is made.
use Rattle.std.proofs.Common.{inl, inr, ⊎_elim, ℕ, ◌≤◌, List, [], ◌∷◌, ◌++◌, Bool, true, false, refl, subst, arith}
use Rattle.std.proofs.lemmas.Bool.{cases_eq}
use Rattle.std.specs.Int.{to_be_bytes, w64}
use Rattle.disk_core.specs.Disk.{Begins, Every, Goes}
use Rattle.disk_core.specs.Sides.{Within}
use Rattle.disk_core.specs.declared.pair.Pair.{Pair}
use Rattle.disk_core.proofs.Runs.{grows_still}
use Rattle.feature_journal.specs.Side.{side, mark, Gate, Closed}
use Rattle.feature_journal.specs.Whole.{Harmless, HarmlessOr, Idle, IsList}
use Rattle.feature_journal.specs.Whole.Harmless.{short, shut, older, tied, equal}
use Rattle.feature_journal.specs.Whole.Idle.{idle_short, idle_shut}
use Rattle.feature_journal.specs.Whole.Ends.{closed}
use Rattle.feature_journal.specs.Held.{HeldClosed}
use Rattle.feature_journal.specs.Nothing.{Unmade, Nothing, Unused}
use Rattle.feature_journal.specs.Nothing.Unmade.{few, zero_first, no_record}
use Rattle.feature_journal.specs.Nothing.Unused.{all_few, all_zero}

abbrev pub header : List ℕ
header = mark ++ to_be_bytes w64 1 ++ 0 ∷ []

pub unused_idle : (is_b : Bool) (generation : ℕ) (images : List ℕ → Type 0) → Unused images → Idle is_b generation images
unused_idle is_b generation images (all_few all) = idle_short all
unused_idle is_b generation images (all_zero all) = idle_shut all

unmade : (images : List ℕ → Type 0) → Unused images → Every images Unmade
unmade images (all_few all) c here = few (all c here)
unmade images (all_zero all) c here = zero_first (all c here)

harmless : (is_b : Bool) (generation : ℕ) (lists : List (List (List ℕ))) (images : List ℕ → Type 0) → Unused images → Every images (Harmless is_b generation lists)
harmless is_b generation lists images (all_few all) c here = short (all c here)
harmless is_b generation lists images (all_zero all) c here = shut (all c here)

nothing_yet : (c : List ℕ) → Harmless false 0 [] c → Unmade c
nothing_yet c (short h) = few h
nothing_yet c (shut h) = zero_first h
nothing_yet c (older own m less) = absurd (omega arith)
nothing_yet c (tied is m) = absurd cc
nothing_yet c (equal gate own bodies not_open l one h) = absurd one

first_closed : (c : List ℕ) → Begins (1 ∷ header) c → Closed (side 1 []) c
unfolding side
first_closed c b = b

first_list : IsList 1 []
first_list = record { generation_fits = omega arith; bodies_fit = tt }

first_says : (x y : List ℕ) → Gate [] header x → Unmade y → Harmless true 1 ([] ∷ []) y → Nothing x y
first_says x y gate un beside = elim (cases_eq gate.byte 1) [
  | inl is_open ↦ inr (record { second = false; generation = 1; bodies = []; list = first_list; one = inl refl; ends = closed (first_closed x (subst (λ n. Begins (n ∷ header) x) is_open gate.is)); beside = beside })
  | inr not_open ↦ inl (no_record gate.byte 1 not_open (omega arith) gate.is, un)
]

module _ {D : Type 0} (moment : D → ℕ) (since : D → ℕ → List ℕ → Type 0) (images : D → List ℕ → Type 0)
    (counts : (d : D) (t : ℕ) (c : List ℕ) → t ≤ moment d → images d c → since d t c) (only : (d : D) (c : List ℕ) → since d (moment d) c → images d c) where
  pub first_goes : (old : Pair D) (new : D) → Unused (images old.b) → Goes moment since (HarmlessOr false 0 (Gate [] header)) old.a new → Within moment since Nothing old (record { a = new; b = old.b })
  first_goes old new b goes = record {
    a = goes.grows;
    b = grows_still moment since images old.b (counts old.b) (only old.b);
    each = λ x y had_a had_b. let here = only old.b y had_b in ⊎_elim (λ h. inl (nothing_yet x h, unmade (images old.b) b y here))
        (λ gate. first_says x y gate (unmade (images old.b) b y here) (harmless true 1 ([] ∷ []) (images old.b) b y here)) (goes.each x had_a);
  }

pub first_held : {D : Type 0} (images : D → List ℕ → Type 0) (old : Pair D) (new : D) → Unused (images old.b) → Every (images new) (Begins (1 ∷ header)) → HeldClosed images false 1 16 [] (record { a = new; b = old.b })
unfolding side
first_held images old new b all = record { list = first_list; size = refl; ends = λ c here. all c here; beside = unused_idle true 1 (images old.b) b }
