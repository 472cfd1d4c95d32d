-- What an action selects, as the answer of a query.
use Rattle.std.proofs.Common.{◌≡◌, ℕ, List, [], ◌∷◌, filter, Option, Some, refl, ap}
use Rattle.feature_values.specs.declared.value.Value.{Value}
use Rattle.feature_values.specs.declared.feature.Feature.{Feature}
use Rattle.fes_filter.specs.declared.filter.Filter.{Filter}
use Rattle.fes_filter.specs.declared.query.Query.{Query}
use Rattle.fes_filter.specs.View.{IsInOrder}
use Rattle.query_core.specs.Selecting.{is_selected, selected, ids_of, selected_ids}
use Rattle.query_core.proofs.Selects.{stays_sorted, in_order_filter}
use Rattle.wfs_model.specs.declared.action.Action.TheVariants.{Insert, Update, Replace, Delete}
use Rattle.wfs_model.specs.Acts.{selects, is_aim}

-- an Insert selects no feature
pub none_selected : (handle : Option (List ℕ)) (features fs : List Feature) → filter (selects (Insert handle features)) fs ≡ []
unfolding selects
none_selected handle features [] = refl
none_selected handle features (f ∷ fs) = none_selected handle features fs

abbrev pub aiming : ℕ → Option Filter → Query
aiming kind passing = record { kind = Some kind; filter = passing; sort = [] }

pub aims_selected : (kind : ℕ) (passing : Option Filter) (fs : List Feature) → IsInOrder fs → selected_ids fs (aiming kind passing) ≡ ids_of (filter (is_aim kind passing) fs)
unfolding selected is_selected
aims_selected kind passing fs order = ap ids_of (stays_sorted (filter (is_selected (aiming kind passing)) fs) (in_order_filter (is_selected (aiming kind passing)) fs order))

-- ---- what each kind of action selects

pub update_aims : (handle : Option (List ℕ)) (kind : ℕ) (sets : List (ℕ × Value)) (passing : Option Filter) (fs : List Feature) → ids_of (filter (is_aim kind passing) fs) ≡ ids_of (filter (selects (Update handle kind sets passing)) fs)
unfolding selects
update_aims handle kind sets passing fs = refl

pub replace_aims : (handle : Option (List ℕ)) (feature : Feature) (passing : Filter) (fs : List Feature) → ids_of (filter (is_aim feature.id.kind (Some passing)) fs) ≡ ids_of (filter (selects (Replace handle feature passing)) fs)
unfolding selects
replace_aims handle feature passing fs = refl

pub delete_aims : (kind : ℕ) (passing : Filter) (fs : List Feature) → ids_of (filter (is_aim kind (Some passing)) fs) ≡ ids_of (filter (selects (Delete kind passing)) fs)
unfolding selects
delete_aims kind passing fs = refl
