-- The values of a feature, one property after the other.
use Rattle.std.proofs.Common.{◌≡◌, ℕ, ◌+◌, ◌<◌, ◌≤◌, List, length, get_or, drop, Result, Ok, Err, refl, sym, ap, ◌∙◌}
use Rattle.std.proofs.lemmas.List.{drop_more, at_drop_all}
use Rattle.wfs_ends.specs.Read.{◌>>=◌}
use Rattle.feature_values.specs.declared.schema.Property.{Property}
use Rattle.feature_values.specs.declared.value.Value.{Value}
use Rattle.feature_values.specs.declared.fault.ValueFault.{ValueFault}
use Rattle.feature_values.specs.Fits.{value_fits, values_fit}

pub fit_turn : (ps : List Property) (vs : List Value) (i : ℕ) (p : Property) (v : Value) → i < length ps → i < length vs → p ≡ get_or ps i p → v ≡ get_or vs i v
    → values_fit (drop i ps) (drop i vs) ≡ (value_fits p v >>= λ _. values_fit (drop (i + 1) ps) (drop (i + 1) vs))
unfolding values_fit
fit_turn ps vs i p v lp lv ep ev = rw (drop_more ps i p lp, drop_more vs i v lv, ← ep, ← ev) refl

pub fit_end : (ps : List Property) (vs : List Value) (i : ℕ) → length ps ≤ i → values_fit (drop i ps) (drop i vs) ≡ Ok tt
unfolding values_fit
fit_end ps vs i le = at_drop_all (λ qs. values_fit qs (drop i vs)) ps i le

-- behind a value that fits, and behind one that does not
module _ (ps : List Property) (vs : List Value) (i : ℕ) (p : Property) (v : Value) (total : Result (Unit {0}) ValueFault) (lp : i < length ps) (lv : i < length vs) (ep : p ≡ get_or ps i p) (ev : v ≡ get_or vs i v) where
  pub fits_so_far : (u : Unit {0}) → value_fits p v ≡ Ok u → values_fit (drop i ps) (drop i vs) ≡ total → values_fit (drop (i + 1) ps) (drop (i + 1) vs) ≡ total
  fits_so_far u now so_far = sym (fit_turn ps vs i p v lp lv ep ev ∙ ap (λ r. r >>= λ _. values_fit (drop (i + 1) ps) (drop (i + 1) vs)) now) ∙ so_far

  pub fails_here : (fault : ValueFault) → value_fits p v ≡ Err fault → values_fit (drop i ps) (drop i vs) ≡ total → Err fault ≡ total
  fails_here fault now so_far = sym (fit_turn ps vs i p v lp lv ep ev ∙ ap (λ r. r >>= λ _. values_fit (drop (i + 1) ps) (drop (i + 1) vs)) now) ∙ so_far
