-- The numbers of a change that may be played stand in the bytes that its record has for them.
use Rattle.std.proofs.Common.{◌≡◌, ℕ, ◌<◌, ◌≤◌, Bool, true, false, List, [], ◌∷◌, length, All, Option, Some, None, Result, Ok, Err, refl, subst, arith}
use Rattle.std.specs.Prelude.{◌==◌, if◌then◌else◌, slice_get, is_some}
use Rattle.std.specs.Option.{IfSome}
use Rattle.std.proofs.lemmas.Bool.{and_parts}
use Rattle.std.proofs.lemmas.List.Elements.{All-nil, All-cons, All-get_or, All-head, All-tail}
use Rattle.std.proofs.lemmas.Option.{get_or_from_slice_get, slice_get_within}
use Rattle.feature_schema.specs.Rules.{KeepsRules, IsType}
use Rattle.feature_values.specs.declared.feature.Feature.{Feature}
use Rattle.feature_values.specs.declared.feature.Rid.{Rid}
use Rattle.feature_values.specs.declared.fault.ValueFault.{ValueFault}
use Rattle.feature_values.specs.declared.fault.ValueFault.TheVariants.{Unknown}
use Rattle.feature_values.specs.declared.schema.FeatureType.{FeatureType}
use Rattle.feature_values.specs.declared.schema.Schema.{Schema}
use Rattle.feature_values.specs.declared.value.Value.{Value}
use Rattle.feature_values.specs.Fits.{values_fit, type_fits, type_fits_if, feature_fits}
use Rattle.fes_filter.specs.View.{is_same, feature_at}
use Rattle.journal_format.specs.Spelling.{IsShort, AreShort}
use Rattle.wfs_model.specs.declared.change.Part.{Part}
use Rattle.wfs_model.specs.declared.change.Part.TheVariants.{Put, Remove}
use Rattle.wfs_model.specs.declared.change.Change.{Change}
use Rattle.wfs_model.specs.declared.change.Change.TheVariants.{Opening, Rows, Created, Dropped, Base}
use Rattle.wfs_model.specs.Kept.{IsKept}
use Rattle.wfs_model.specs.Playable.{is_ok, is_number, is_part, are_parts, is_playable}
use Rattle.wfs_model.specs.Played.{part_played, played_one}
use Rattle.wfs_model.specs.State.{Durable}
use Rattle.wfs_model.proofs.Keeping.{kind_within}
use Rattle.wfs_model.proofs.Playable.{playing_keeps}

-- ---- features

slice_all : {X : Type 0} (P : X → Type 0) (xs : List X) (k : ℕ) (x : X) → All P xs → slice_get xs k ≡ Some x → P x
slice_all P xs k x all there = subst P (get_or_from_slice_get xs k x x there) (All-get_or P xs k x (slice_get_within xs k x there) all)

fits_ok : (r : Result (Unit {0}) ValueFault) → is_ok r ≡ true → r ≡ Ok tt
fits_ok (Ok tt) is = refl
fits_ok (Err fault) is = absurd cc

-- as many values as the type has properties
same_length : (of_type : FeatureType) (values : List Value) → type_fits of_type values ≡ Ok tt → length values ≡ length of_type.properties
unfolding type_fits
same_length of_type values fits = by_test (length of_type.properties == length values) refl fits
  where
    by_test : (b : Bool) → (length of_type.properties == length values) ≡ b
        → (if b then values_fit of_type.properties values else Err Unknown) ≡ Ok tt → length values ≡ length of_type.properties
    by_test true is there = grind (arith, is)
    by_test false is there = absurd cc

values_few : (schema : Schema) (f : Feature) → KeepsRules schema → feature_fits schema f ≡ Ok tt → length f.values ≤ 64
unfolding feature_fits
values_few schema f rules fits = by_type (slice_get schema.types f.id.kind) refl fits
  where
    by_type : (o : Option FeatureType) → slice_get schema.types f.id.kind ≡ o → type_fits_if o f.values ≡ Ok tt → length f.values ≤ 64
    by_type None there is = absurd cc
    by_type (Some of_type) there is =
        let few : length of_type.properties ≤ 64 = (let one : IsType of_type = slice_all IsType schema.types f.id.kind of_type rules.types there in one.few) in
        let same = same_length of_type f.values is in
        omega (arith, few, same)

fitting_short : (schema : Schema) (f : Feature) → KeepsRules schema → feature_fits schema f ≡ Ok tt → IsShort (Put f)
fitting_short schema f rules fits =
    let within = kind_within schema f fits in
    let types = rules.few_types in
    let values = values_few schema f rules fits in
    (omega (arith, within, types), omega (arith, values))

-- ---- parts

found_kind : (schema : Schema) (fs : List Feature) (id : Rid) → All (λ f. feature_fits schema f ≡ Ok tt) fs → is_some (feature_at id fs) ≡ true → id.kind < length schema.types
found_kind schema [] id all there = absurd cc
found_kind schema (f ∷ fs) id all there = by_test (is_same f.id id) refl (found_kind schema fs id (All-tail (λ g. feature_fits schema g ≡ Ok tt) f fs all)) there
  where
    Fitting : Feature → Type 0
    Fitting g = feature_fits schema g ≡ Ok tt

    by_test : (b : Bool) → is_same f.id id ≡ b → (is_some (feature_at id fs) ≡ true → id.kind < length schema.types) → is_some (if b then Some f else feature_at id fs) ≡ true → id.kind < length schema.types
    by_test true is rest there =
        let within = kind_within schema f (All-head Fitting f fs all) in
        let same : f.id.kind ≡ id.kind = grind (arith, is) in
        omega (arith, within, same)
    by_test false is rest there = rest there

short_part : (schema : Schema) (kept : Durable) (part : Part) → KeepsRules schema → IsKept schema kept → is_part schema kept part ≡ true → IsShort part
unfolding is_part
short_part schema kept (Put f) rules well is =
    fitting_short schema f rules (fits_ok (feature_fits schema f) (and_parts (is_ok (feature_fits schema f)) (is_number f.id.number) is).0)
short_part schema kept (Remove id) rules well is =
    let within = found_kind schema kept.features id well.fitting is in
    let types = rules.few_types in
    omega (arith, within, types)

part_keeps : (schema : Schema) (kept : Durable) (part : Part) → IsKept schema kept → is_part schema kept part ≡ true → IsKept schema (part_played kept part)
unfolding is_playable are_parts played_one
part_keeps schema kept part well is =
    let playable : is_playable schema kept (Rows (part ∷ [])) ≡ true = rw is refl in
    playing_keeps schema kept (Rows (part ∷ [])) well tt playable

short_parts : (schema : Schema) (kept : Durable) (parts : List Part) → KeepsRules schema → IsKept schema kept → are_parts schema kept parts ≡ true → All IsShort parts
unfolding are_parts
short_parts schema kept [] rules well is = All-nil IsShort
short_parts schema kept (part ∷ parts) rules well is =
    let both = and_parts (is_part schema kept part) (are_parts schema (part_played kept part) parts) is in
    All-cons IsShort part parts (short_part schema kept part rules well both.0)
    (short_parts schema (part_played kept part) parts rules (part_keeps schema kept part well both.0) both.1)

-- ---- changes

pub short_change : (schema : Schema) (kept : Durable) (change : Change) → KeepsRules schema → IsKept schema kept → is_playable schema kept change ≡ true → AreShort change
unfolding is_playable
short_change schema kept (Opening opening) rules well is = tt
short_change schema kept (Rows parts) rules well is = short_parts schema kept parts rules well is
short_change schema kept (Created queries) rules well is = tt
short_change schema kept (Dropped id) rules well is = tt
short_change schema kept (Base opening counters) rules well is =
    let types = rules.few_types in
    let same : length counters ≡ length schema.types = grind (arith, is) in
    omega (arith, types, same)

pub short_if : (schema : Schema) (kept : Durable) (made : Option Change) → KeepsRules schema → IsKept schema kept
    → IfSome made (λ change. is_playable schema kept change ≡ true) → IfSome made AreShort
short_if schema kept None rules well playable = tt
short_if schema kept (Some change) rules well playable = short_change schema kept change rules well playable
