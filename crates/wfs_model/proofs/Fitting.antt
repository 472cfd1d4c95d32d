-- What a transaction leaves is such as the schema allows, where its actions are, under numbers that are counted from 1.
use Rattle.std.proofs.Common.{◌≡◌, ℕ, zero, suc, ◌≤◌, Bool, true, false, List, [], ◌∷◌, length, All, Option, Some, None, Result, Ok, Err, refl, sym, ap, ◌∙◌, subst, set, length-set, arith}
use Rattle.std.specs.Prelude.{◌==◌, ◌&&◌, flat_map, if◌then◌else◌, slice_get}
use Rattle.std.specs.List.{fold}
use Rattle.std.specs.Option.{option_and_then}
use Rattle.std.proofs.lemmas.List.Elements.{All-nil, All-cons, All-head, All-tail, All-append}
use Rattle.wfs_ends.specs.Read.{◌>>=◌, each}
use Rattle.feature_values.specs.declared.value.Value.{Value}
use Rattle.feature_values.specs.declared.feature.Feature.{Feature}
use Rattle.feature_values.specs.declared.feature.Rid.{Rid}
use Rattle.feature_values.specs.declared.schema.Property.{Property}
use Rattle.feature_values.specs.declared.schema.FeatureType.{FeatureType}
use Rattle.feature_values.specs.declared.schema.Schema.{Schema}
use Rattle.feature_values.specs.declared.fault.ValueFault.{ValueFault}
use Rattle.feature_values.specs.declared.fault.ValueFault.TheVariants.{Unknown}
use Rattle.feature_values.specs.Fits.{value_fits, values_fit, type_fits, type_fits_if, feature_fits}
use Rattle.feature_overlay.specs.Changed.{IsOf}
use Rattle.query_core.specs.Selecting.{to_list, passes_filter}
use Rattle.wfs_model.specs.declared.action.Action.{Action}
use Rattle.wfs_model.specs.declared.action.Action.TheVariants.{Insert, Update, Replace, Delete}
use Rattle.wfs_model.specs.Acts.{Acting, begun, numbered, inserted, selects, with_value, instead, left_of, changed, acted, touched_by, are_too_many}
use Rattle.wfs_model.specs.Refusals.{not_one}
use Rattle.wfs_model.specs.Plans.{Planning, planned, planned_all}
use Rattle.wfs_model.specs.OfSchema.{set_fits, IsSetOf, IsNewOf, IsActionOf}
use Rattle.wfs_model.proofs.Middle.{instead_keeps}
use Rattle.wfs_model.proofs.Sound.{May, bind_ok, all_laid, done_is, after_features, after_counters}

-- a feature that the schema allows
abbrev pub Fits : Schema → Feature → Type 0
Fits schema f = feature_fits schema f ≡ Ok tt

-- a feature that the schema allows, under a number
pub record IsNumbered (schema : Schema) (f : Feature) : Type 0 where
  pub fits : Fits schema f
  pub number : 1 ≤ f.id.number

-- the same of all features, from what is said of each
pub all_numbered : (schema : Schema) (fs : List Feature) → All (Fits schema) fs → All (λ f. 1 ≤ f.id.number) fs → All (IsNumbered schema) fs
all_numbered schema fs fitting numbers k d lt = record { fits = fitting k d lt; number = numbers k d lt }

-- ---- a value is set

value_is : (r : Result (Unit {0}) ValueFault) (rest : Result (Unit {0}) ValueFault) → r ≡ Ok tt → (r >>= λ _. rest) ≡ rest
value_is r rest is = rw is refl

behind_is : (r rest : Result (Unit {0}) ValueFault) → (r >>= λ _. rest) ≡ Ok tt → (r ≡ Ok tt) × (rest ≡ Ok tt)
behind_is (Ok tt) rest is = (refl, is)
behind_is (Err fault) rest is = absurd cc

first_is : (p q : Property) → (let o : Option Property = Some p in o) ≡ Some q → p ≡ q
first_is p q is = cc

set_fits_one : (ps : List Property) (vs : List Value) (i : ℕ) (p : Property) (v : Value) → slice_get ps i ≡ Some p → value_fits p v ≡ Ok tt → values_fit ps vs ≡ Ok tt → values_fit ps (set vs i v) ≡ Ok tt
unfolding values_fit
set_fits_one [] vs i p v there fits all = refl
set_fits_one (q ∷ ps) [] i p v there fits all = refl
set_fits_one (q ∷ ps) (w ∷ vs) zero p v there fits all =
    value_is (value_fits q v) (values_fit ps vs) (ap (λ (r : Property). value_fits r v) (first_is q p there) ∙ fits) ∙ (behind_is (value_fits q w) (values_fit ps vs) all).1
set_fits_one (q ∷ ps) (w ∷ vs) (suc i) p v there fits all =
    let parts = behind_is (value_fits q w) (values_fit ps vs) all in
    value_is (value_fits q w) (values_fit ps (set vs i v)) parts.0 ∙ set_fits_one ps vs i p v there fits parts.1

fits_type : (b : Bool) (r : Result (Unit {0}) ValueFault) → (if b then r else Err Unknown) ≡ Ok tt → (b ≡ true) × (r ≡ Ok tt)
fits_type true r is = (refl, is)
fits_type false r is = absurd cc

set_fits_type : (of_type : FeatureType) (vs : List Value) (i : ℕ) (v : Value) → set_fits (slice_get of_type.properties i) v ≡ Ok tt → type_fits of_type vs ≡ Ok tt → type_fits of_type (set vs i v) ≡ Ok tt
unfolding type_fits
set_fits_type of_type vs i v fits all = by_place (slice_get of_type.properties i) refl fits
  where
    by_place : (o : Option Property) → slice_get of_type.properties i ≡ o → set_fits o v ≡ Ok tt → (if length of_type.properties == length (set vs i v) then values_fit of_type.properties (set vs i v) else Err Unknown) ≡ Ok tt
    by_place None there is = absurd cc
    by_place (Some p) there is =
        let parts = fits_type (length of_type.properties == length vs) (values_fit of_type.properties vs) all in
        rw (length-set vs i v, parts.0) (set_fits_one of_type.properties vs i p v there is parts.1)

set_fits_if : (o : Option FeatureType) (vs : List Value) (i : ℕ) (v : Value) → set_fits (option_and_then (λ of_type. slice_get of_type.properties i) o) v ≡ Ok tt → type_fits_if o vs ≡ Ok tt → type_fits_if o (set vs i v) ≡ Ok tt
set_fits_if None vs i v fits all = all
set_fits_if (Some of_type) vs i v fits all = set_fits_type of_type vs i v fits all

one_set_fits : (schema : Schema) (id : Rid) (vs : List Value) (given : ℕ × Value) → IsSetOf schema id.kind given → Fits schema (record { id = id; values = vs }) → Fits schema (record { id = id; values = with_value vs given })
unfolding feature_fits
one_set_fits schema id vs given fits all = set_fits_if (slice_get schema.types id.kind) vs given.0 given.1 fits all

all_sets_fit : (schema : Schema) (id : Rid) (vs : List Value) (sets : List (ℕ × Value)) → All (IsSetOf schema id.kind) sets → Fits schema (record { id = id; values = vs }) → Fits schema (record { id = id; values = fold with_value vs sets })
all_sets_fit schema id vs [] all fits = fits
all_sets_fit schema id vs (one ∷ sets) all fits =
    all_sets_fit schema id (with_value vs one) sets (All-tail (IsSetOf schema id.kind) one sets all) (one_set_fits schema id vs one (All-head (IsSetOf schema id.kind) one sets all) fits)

-- ---- features that come in

-- the number of a feature has no say in what fits
pub numbered_fits : (schema : Schema) (counters : List ℕ) (f : Feature) → Fits schema f → Fits schema (numbered counters f)
unfolding feature_fits
numbered_fits schema counters f fits = fits

comes_fit : (schema : Schema) (handle : Option (List ℕ)) (at : Acting) (f : Feature) → Fits schema f → All (IsNumbered schema) at.features → All (IsNumbered schema) (inserted handle at f).features
unfolding inserted
comes_fit schema handle at f fits all =
    all_laid (IsNumbered schema) at.features (numbered at.counters f) (record { fits = numbered_fits schema at.counters f fits; number = omega arith }) all

come_fit : (schema : Schema) (handle : Option (List ℕ)) (at : Acting) (fs : List Feature) → All (IsNewOf schema) fs → All (IsNumbered schema) at.features → All (IsNumbered schema) (fold (inserted handle) at fs).features
come_fit schema handle at [] new all = all
come_fit schema handle at (f ∷ fs) new all =
    come_fit schema handle (inserted handle at f) fs (All-tail (IsNewOf schema) f fs new) (comes_fit schema handle at f (All-head (IsNewOf schema) f fs new).fits all)

-- ---- features that are selected

same_kind : (a b : ℕ) → (a == b) ≡ true → a ≡ b
same_kind a b is = grind (arith, is)

both_true : (a b : Bool) → (a && b) ≡ true → a ≡ true
both_true true b is = refl
both_true false b is = absurd cc

replaced_fits : (schema : Schema) (f feature : Feature) → f.id.kind ≡ feature.id.kind → Fits schema feature → Fits schema (record f { values = feature.values })
unfolding feature_fits
replaced_fits schema f feature kinds fits = rw kinds fits

-- an action leaves a feature that fits where it selects one that fits
pub instead_fits : (schema : Schema) (action : Action) (f g : Feature) → IsActionOf schema action → Fits schema f → selects action f ≡ true → instead action f ≡ Some g → Fits schema g
unfolding instead selects
instead_fits schema (Insert handle features) f g of_schema fits aim is = absurd cc
instead_fits schema (Update handle kind sets passing) f g of_schema fits aim is =
    let kinds : f.id.kind ≡ kind = same_kind f.id.kind kind (both_true (f.id.kind == kind) (passes_filter passing f) aim) in
    let now : record f { values = fold with_value f.values sets } ≡ g = cc in
    subst (Fits schema) now (all_sets_fit schema f.id f.values sets (rw kinds of_schema.1) fits)
instead_fits schema (Replace handle feature passing) f g of_schema fits aim is =
    let kinds : f.id.kind ≡ feature.id.kind = same_kind f.id.kind feature.id.kind (both_true (f.id.kind == feature.id.kind) (passes_filter (Some passing) f) aim) in
    let now : record f { values = feature.values } ≡ g = cc in
    subst (Fits schema) now (replaced_fits schema f feature kinds of_schema.0.fits)
instead_fits schema (Delete kind passing) f g of_schema fits aim is = absurd cc

-- and leaves it under its number
instead_numbered : (schema : Schema) (action : Action) (f g : Feature) → IsActionOf schema action → IsNumbered schema f → selects action f ≡ true → instead action f ≡ Some g → IsNumbered schema g
instead_numbered schema action f g of_schema one aim is =
    let same : g.id ≡ f.id = subst (IsOf f.id) is (instead_keeps action f) in
    record { fits = instead_fits schema action f g of_schema one.fits aim is; number = rw same one.number }

left_fit : (schema : Schema) (action : Action) (f : Feature) → IsActionOf schema action → IsNumbered schema f → All (IsNumbered schema) (left_of action f)
unfolding left_of
left_fit schema action f of_schema one = by_aim (selects action f) refl
  where
    listed : (o : Option Feature) → selects action f ≡ true → instead action f ≡ o → All (IsNumbered schema) (to_list o)
    listed None aim is = All-nil (IsNumbered schema)
    listed (Some g) aim is = All-cons (IsNumbered schema) g [] (instead_numbered schema action f g of_schema one aim is) (All-nil (IsNumbered schema))

    by_aim : (b : Bool) → selects action f ≡ b → All (IsNumbered schema) (if b then to_list (instead action f) else f ∷ [])
    by_aim true aim = listed (instead action f) aim refl
    by_aim false aim = All-cons (IsNumbered schema) f [] one (All-nil (IsNumbered schema))

all_left_fit : (schema : Schema) (action : Action) (fs : List Feature) → IsActionOf schema action → All (IsNumbered schema) fs → All (IsNumbered schema) (flat_map (left_of action) fs)
all_left_fit schema action [] of_schema all = All-nil (IsNumbered schema)
all_left_fit schema action (f ∷ fs) of_schema all =
    All-append (IsNumbered schema) (left_of action f) (flat_map (left_of action) fs) (left_fit schema action f of_schema (All-head (IsNumbered schema) f fs all)) (all_left_fit schema action fs of_schema (All-tail (IsNumbered schema) f fs all))

-- ---- actions

-- the features are such as the schema allows, under numbers, and there are so many counters
pub record IsAllowed (schema : Schema) (types : ℕ) (acting : Acting) : Type 0 where
  pub fitting : All (IsNumbered schema) acting.features
  pub counters : length acting.counters ≡ types

come_counted : (handle : Option (List ℕ)) (at : Acting) (fs : List Feature) → length (fold (inserted handle) at fs).counters ≡ length at.counters
unfolding inserted
come_counted handle at [] = refl
come_counted handle at (f ∷ fs) = come_counted handle (inserted handle at f) fs ∙ length-set at.counters (numbered at.counters f).id.kind (numbered at.counters f).id.number

change_allowed : (schema : Schema) (types : ℕ) (action : Action) (at : Acting) → IsActionOf schema action → IsAllowed schema types at → IsAllowed schema types (changed action at)
change_allowed schema types action at of_schema allowed = record {
  fitting = subst (λ (l : List Feature). All (IsNumbered schema) l) (sym (after_features action at)) (all_left_fit schema action at.features of_schema allowed.fitting);
  counters = ap length (after_counters action at) ∙ allowed.counters;
}

change_is_allowed : (schema : Schema) (types : ℕ) (action : Action) (at done : Acting) → IsActionOf schema action → IsAllowed schema types at → changed action at ≡ done → IsAllowed schema types done
change_is_allowed schema types action at done of_schema allowed is = subst (IsAllowed schema types) is (change_allowed schema types action at of_schema allowed)

act_allowed : (schema : Schema) (types : ℕ) (action : Action) (at done : Acting) → IsActionOf schema action → IsAllowed schema types at → acted at action ≡ Ok done → IsAllowed schema types done
unfolding acted
act_allowed schema types (Insert handle features) at done of_schema allowed is =
    let now : fold (inserted handle) at features ≡ done = cc in
    subst (IsAllowed schema types) now (record { fitting = come_fit schema handle at features of_schema allowed.fitting; counters = come_counted handle at features ∙ allowed.counters })
act_allowed schema types (Update handle kind sets passing) at done of_schema allowed is = let action : Action = Update handle kind sets passing in change_is_allowed schema types action at done of_schema allowed (done_is (are_too_many action (touched_by action at)) not_one (changed action at) done is)
act_allowed schema types (Replace handle feature passing) at done of_schema allowed is = let action : Action = Replace handle feature passing in change_is_allowed schema types action at done of_schema allowed (done_is (are_too_many action (touched_by action at)) not_one (changed action at) done is)
act_allowed schema types (Delete kind passing) at done of_schema allowed is = let action : Action = Delete kind passing in change_is_allowed schema types action at done of_schema allowed (done_is (are_too_many action (touched_by action at)) not_one (changed action at) done is)

-- ---- all actions

pub plan_allowed : (schema : Schema) (types : ℕ) (may : May) (plan next : Planning) (action : Action) → IsActionOf schema action → IsAllowed schema types plan.at → planned may plan action ≡ Ok next → IsAllowed schema types next.at
unfolding planned
plan_allowed schema types may plan next action of_schema allowed is =
    let one = bind_ok (acted plan.at action) _ next is in
    let two = bind_ok (may (touched_by action plan.at)) _ next one.2 in
    let now : one.0 ≡ next.at = (let e = two.2 in cc) in
    subst (IsAllowed schema types) now (act_allowed schema types action plan.at one.0 of_schema allowed one.1)

each_allowed : (schema : Schema) (types : ℕ) (may : May) (plan done : Planning) (actions : List Action) → All (IsActionOf schema) actions → IsAllowed schema types plan.at → each (planned may) plan actions ≡ Ok done → IsAllowed schema types done.at
unfolding each
each_allowed schema types may plan done [] of_schema allowed is = let same : plan ≡ done = cc in subst (λ (p : Planning). IsAllowed schema types p.at) same allowed
each_allowed schema types may plan done (action ∷ actions) of_schema allowed is =
    let one = bind_ok (planned may plan action) _ done is in
    each_allowed schema types may one.0 done actions (All-tail (IsActionOf schema) action actions of_schema) (plan_allowed schema types may plan one.0 action (All-head (IsActionOf schema) action actions of_schema) allowed one.1) one.2

-- what actions of a schema leave of features that it allows are features that it allows
pub all_allowed : (schema : Schema) (may : May) (features : List Feature) (counters : List ℕ) (actions : List Action) (done : Planning) → All (IsActionOf schema) actions → All (IsNumbered schema) features → planned_all may features counters actions ≡ Ok done → IsAllowed schema (length counters) done.at
unfolding planned_all
all_allowed schema may features counters actions done of_schema fitting is =
    each_allowed schema (length counters) may (record { at = begun features counters; parts = []; touched = [] }) done actions of_schema (record { fitting = fitting; counters = refl }) is
