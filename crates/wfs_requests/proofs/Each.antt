-- The properties of a type and whether each was met, one after the other.
use Rattle.std.proofs.Common.{◌≡◌, ℕ, ◌+◌, ◌<◌, ◌≤◌, Bool, List, length, get_or, drop, Result, Ok, refl, sym, ap, ◌∙◌}
use Rattle.std.proofs.lemmas.List.{drop_more, at_drop_all}
use Rattle.wfs_ends.specs.Read.{◌>>=◌, FailsBut}
use Rattle.feature_values.specs.declared.schema.Property.{Property}
use Rattle.wfs_model.specs.declared.fault.AskFault.{AskFault}
use Rattle.wfs_requests.specs.Features.{one_met, all_met}

pub met_end : (ps : List Property) (ms : List Bool) (i : ℕ) → length ps ≤ i → all_met (drop i ps) (drop i ms) ≡ Ok tt
unfolding all_met
met_end ps ms i le = at_drop_all (λ qs. all_met qs (drop i ms)) ps i le

module _ (ps : List Property) (ms : List Bool) (i : ℕ) (p : Property) (d : Bool) (total : Result (Unit {0}) AskFault) (lp : i < length ps) (lm : i < length ms) (ep : p ≡ get_or ps i p) where
  turn : all_met (drop i ps) (drop i ms) ≡ (one_met p (get_or ms i d) >>= λ _. all_met (drop (i + 1) ps) (drop (i + 1) ms))
  unfolding all_met
  turn = rw (drop_more ps i p lp, drop_more ms i d lm, ← ep) refl

  -- behind a property that was met, and at one that was not
  pub met_so_far : (u : Unit {0}) → one_met p (get_or ms i d) ≡ Ok u → all_met (drop i ps) (drop i ms) ≡ total → all_met (drop (i + 1) ps) (drop (i + 1) ms) ≡ total
  met_so_far u now so_far = sym (turn ∙ ap (λ r. r >>= λ _. all_met (drop (i + 1) ps) (drop (i + 1) ms)) now) ∙ so_far

  pub not_met : (memory fault : AskFault) → FailsBut memory fault (one_met p (get_or ms i d)) → all_met (drop i ps) (drop i ms) ≡ total → FailsBut memory fault total
  not_met memory fault now so_far = λ other. sym so_far ∙ turn ∙ ap (λ r. r >>= λ _. all_met (drop (i + 1) ps) (drop (i + 1) ms)) (now other)
