-- One level of elements.
use Rattle.std.proofs.Common.{◌≡◌, ℕ, zero, suc, sub-one, ◌-◌, List, Result, Err, Bool, ◌<◌, refl, sym, ◌∙◌, arith}
use Rattle.wfs_ends.specs.Read.{◌>>=◌, until}
use Rattle.wfs_ends.proofs.Turns.{until_turn}
use Rattle.doc_read.specs.declared.fault.DocFault.{DocFault}
use Rattle.doc_read.specs.declared.fault.DocFault.TheVariants.{Malformed, TooDeep}
use Rattle.doc_read.specs.Read.{Fails}
use Rattle.doc_read.specs.declared.scope.Bound.{Bound}
use Rattle.doc_read.specs.Element.{head_at, level_at, element_at}

pub element_deep : (d : ℕ) (scope : List Bound) (seen : ℕ) (cs : List ℕ) → d ≡ 0 → element_at d scope seen cs ≡ (head_at scope cs >>= λ h. Err TooDeep)
unfolding element_at
element_deep zero scope seen cs is = refl
element_deep (suc d) scope seen cs is = absurd (omega arith)

pub element_level : (d : ℕ) (scope : List Bound) (seen : ℕ) (cs : List ℕ) → (d ≡ 0 → ⊥) → element_at d scope seen cs ≡ (head_at scope cs >>= level_at (element_at (d - 1)) seen)
unfolding element_at
element_level zero scope seen cs not = absurd (not refl)
element_level (suc d) scope seen cs not = rw (sub-one) refl

pub until_fails : {A : Type 0} (step : A → Result (Bool × A) DocFault) (n i : ℕ) (s : A) (total : Result A DocFault) (e : DocFault) → i < n → Fails e (step s) → until Malformed step (n - i) s ≡ total → Fails e total
until_fails step n i s total e lt now so_far = λ other. sym so_far ∙ until_turn Malformed step n i s lt ∙ rw (now other) refl
