-- The rule of those who publish and view, and what their steps tell.
use Rattle.std.specs.Prelude.{ℕ, ◌≡◌, ◌≤◌, List, [], ◌∷◌, ◌++◌, All}
use mathlib.Core.Option.{some}
use lib.ListN.{get_elem?}
use Rattle.snapshot_reads.specs.declared.book.Pair.{Pair}
use Rattle.snapshot_reads.specs.declared.rule.Knows.{Knows}
use Rattle.snapshot_reads.specs.declared.shown.Shown.{Shown}
use Rattle.snapshot_reads.specs.Pairs.{pair, Stands}

abbrev pub pair_of : Shown → Pair
pair_of x = pair x.front x.snapshot

-- no pair has a front above n
abbrev pub AllUpTo : ℕ → List Pair → Type 0
AllUpTo n = All (λ p. p.front ≤ n)

-- What one of them knows fits what is published.
pub record Fits (x : Shown) (v : Knows) : Type 0 where
  pub reached : v.reached ≤ x.front
  pub of : All (λ s. s.book ≡ x.seen.book) v.of
  pub entered : AllUpTo v.reached v.entered

-- What is published stands in its history, and fits what each of them knows.
pub record Holds (x : Shown) (views : List Knows) : Type 0 where
  pub stands : Stands x.seen.log (pair_of x)
  pub each : (j : ℕ) (v : Knows) → get_elem? views j ≡ some v → Fits x v

abbrev pub nobody : Knows
nobody = record { reached = 0; of = []; entered = [] }

abbrev pub with_read : Knows → Shown → Knows
with_read v x = record { reached = x.front; of = v.of; entered = v.entered ++ pair_of x ∷ [] }

-- a viewer entered while x was published, and its pairs grew by this one
pub record Sees (v : Knows) (x y : Shown) (w : Knows) : Type 0 where
  pub view : w ≡ with_read v x
  pub stands : Stands x.seen.log (pair_of x)
  pub of : All (λ s. s.book ≡ x.seen.book) v.of
  pub not_below : AllUpTo x.front v.entered

-- the publisher swapped: y is published
abbrev pub Shows : Knows → Shown → Shown → Knows → Type 0
Shows v x y w = w ≡ record { reached = y.front; of = y.seen ∷ []; entered = [] }

-- what the publisher tells a new viewer: which history it is
abbrev pub told_right : Knows → Knows
told_right v = record { reached = 0; of = v.of; entered = [] }

abbrev pub told_both : Knows → Knows → Knows
told_both v w = record { reached = v.reached; of = w.of; entered = v.entered }
