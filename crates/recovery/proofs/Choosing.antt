-- Which side is current, from what the first bytes of both tell.
use Rattle.std.proofs.Common.{◌≡◌, ◌≤◌, inl, inr, ℕ, List, [], refl, arith, subst, None, Some, true, false}
use Rattle.std.proofs.lemmas.Bool.{cases_lt}
use Rattle.feature_journal.specs.Refused.{Able}
use Rattle.feature_journal.specs.Recover.{foreign_at}
use Rattle.recovery.specs.Choice.{IsBeside}
use Rattle.recovery.specs.Choice.IsBeside.{older, tied}
use Rattle.recovery.specs.Outcome.{Outcome, unless_foreign, not_a_journal}

pub foreign_second : (x y : List ℕ) (place : ℕ) → foreign_at x ≡ None → foreign_at y ≡ Some place → (other : Outcome) → unless_foreign (foreign_at x) (foreign_at y) other ≡ not_a_journal true place []
foreign_second x y place own is other = λ i. unless_foreign (own i) (is i) other

-- side b of a generation that is not greater
pub open_beside : (generation own : ℕ) (y : List ℕ) → own ≤ generation → Able own y → IsBeside false true generation y
open_beside generation own y le able =
    elim (cases_lt own generation) [
      | inl less ↦ older own refl less able
      | inr more ↦ tied refl refl (let same : own ≡ generation = omega (arith, le, more) in subst (λ n. Able n y) same able)
    ]
