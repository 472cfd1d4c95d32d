-- The requests of a drill are such as the schema allows.
use Rattle.std.proofs.Common.{◌≡◌, ℕ, zero, suc, ◌<◌, ◌≤◌, ◌%◌, Bool, true, false, List, [], ◌∷◌, length, map, Option, Some, None, Ok, refl, sym, ap, ◌∙◌, subst, arith}
use Rattle.std.specs.Prelude.{All, slice_get, nat_lt, if◌then◌else◌, ◌==◌}
use Rattle.std.specs.Str.{chars}
use Rattle.std.proofs.lemmas.List.{length-map}
use Rattle.std.proofs.lemmas.List.Elements.{All-nil, All-cons, All-head, All-tail}
use Rattle.geom_core.specs.Plane.{Bounds}
use Rattle.feature_schema.specs.Rules.{IsProperty, IsType as IsFeatureType, KeepsRules}
use Rattle.feature_values.specs.declared.schema.FeatureType.{FeatureType}
use Rattle.feature_values.specs.declared.schema.Property.{Property}
use Rattle.feature_values.specs.declared.schema.Schema.{Schema}
use Rattle.feature_values.specs.declared.schema.ValueKind.{ValueKind}
use Rattle.feature_values.specs.declared.schema.ValueKind.TheVariants as kind
use Rattle.feature_values.specs.declared.feature.Rid.{Rid}
use Rattle.feature_values.specs.Fits.{is_null, is_of_kind, value_fits, values_fit, type_fits, type_fits_if, feature_fits}
use Rattle.feature_values.specs.Reads.{is_too_long, is_longer}
use Rattle.fes_filter.specs.declared.filter.Filter.{Filter}
use Rattle.fes_filter.specs.declared.filter.Filter.TheOpen.{Filter-F}
use Rattle.fes_filter.specs.declared.filter.Filter.TheVariants.{InBox, rolls-InBox}
use Rattle.fes_filter.specs.declared.filter.Filter.TheFolds.{fold-roll-Filter}
use Rattle.fes_filter.specs.Check.{Verdict, type_in, verdicts, verdicts_step, counted, most_operators, check_of}
use Rattle.wfs_ends.specs.Read.{◌>>=◌, each}
use Rattle.wfs_model.specs.declared.request.Request.{Request}
use Rattle.wfs_model.specs.OfSchema.{IsType, IsFilterOf, IsQueryOf, IsNewOf, IsActionOf, IsOfSchema, places_in, places_step, ids_in, ids_step}
use Rattle.drill_requests.specs.Drawn.{Drawn}
use Rattle.drill_requests.specs.Fitting.{IsOneOf}
use Rattle.drill_requests.specs.Requests.{query_in, value_of, values_of, feature_of, square, surroundings, insertion, locking, counting, deletion, deletions_of, requests_of}

alone : {X : Type 0} (P : X → Type 0) (x : X) → P x → All P (x ∷ [])
alone P x p = All-cons P x [] p (All-nil P)

-- ---- features

not_null : (round : Drawn) (k : ValueKind) → is_null (value_of round k) ≡ false
not_null round kind.Words = refl
not_null round kind.Whole = refl
not_null round kind.Truth = refl
not_null round kind.Point = refl
not_null round kind.Line = refl
not_null round kind.Polygon = refl

of_its_kind : (round : Drawn) (k : ValueKind) → is_of_kind (value_of round k) k ≡ true
unfolding is_of_kind
of_its_kind round kind.Words = refl
of_its_kind round kind.Whole = refl
of_its_kind round kind.Truth = refl
of_its_kind round kind.Point = refl
of_its_kind round kind.Line = refl
of_its_kind round kind.Polygon = refl

above : (max : ℕ) → 1 ≤ max → nat_lt max 1 ≡ false
above max some = grind (arith, some)

short : (round : Drawn) (k : ValueKind) (max : ℕ) → 1 ≤ max → is_too_long (value_of round k) max ≡ false
unfolding is_longer chars
short round kind.Words max some = above max some
short round kind.Whole max some = refl
short round kind.Truth max some = refl
short round kind.Point max some = refl
short round kind.Line max some = refl
short round kind.Polygon max some = refl

one_fits : (round : Drawn) (property : Property) → IsProperty property → value_fits property (value_of round property.kind) ≡ Ok tt
unfolding value_fits
one_fits round property is = rw (not_null round property.kind, of_its_kind round property.kind, short round property.kind property.max is.some) refl

all_fit : (round : Drawn) (properties : List Property) → All IsProperty properties → values_fit properties (map (λ (p : Property). value_of round p.kind) properties) ≡ Ok tt
unfolding values_fit
all_fit round [] are = refl
all_fit round (p ∷ ps) are =
    rw (one_fits round p (All-head IsProperty p ps are)) (all_fit round ps (All-tail IsProperty p ps are))

of_type_fits : (round : Drawn) (of_type : FeatureType) → IsFeatureType of_type → type_fits of_type (map (λ (p : Property). value_of round p.kind) of_type.properties) ≡ Ok tt
unfolding type_fits
of_type_fits round of_type is =
    let same : (length of_type.properties == length (map (λ (p : Property). value_of round p.kind) of_type.properties)) ≡ true = rw length-map (grind arith) in
    rw same (all_fit round of_type.properties is.properties)

at_kind : (types : List FeatureType) (k : ℕ) → All IsFeatureType types → k < length types → (round : Drawn) → type_fits_if (slice_get types k) (values_of round (slice_get types k)) ≡ Ok tt
at_kind [] k are lt round = absurd (omega (arith, lt))
at_kind (t ∷ ts) zero are lt round = of_type_fits round t (All-head IsFeatureType t ts are)
at_kind (t ∷ ts) (suc k) are lt round = at_kind ts k (All-tail IsFeatureType t ts are) (omega (arith, lt)) round

module _ (schema : Schema) (rules : KeepsRules schema) (round : Drawn) (lt : round.kind < length schema.types) where
  is_new : IsNewOf schema (feature_of schema round)
  unfolding feature_fits
  is_new = record { fits = at_kind schema.types round.kind rules.types lt round; number = refl }

  -- ---- filters

  one_fine : (f : Filter) → verdicts (type_in schema (Some round.kind)) f ≡ Ok tt ∷ [] → check_of schema (Some round.kind) f ≡ Ok tt
  unfolding check_of each counted
  one_fine f h = ap (λ (vs : List Verdict). each counted most_operators vs >>= λ _. Ok tt) h

  box_fits : (area : Bounds) → IsFilterOf schema (Some round.kind) 0 (InBox None area)
  box_fits area =
      let o : Filter-F Filter = Filter-F.InBox None area in
      let rolls = sym (rolls-InBox None area) in
      let of_type = type_in schema (Some round.kind) in
      let types : Rid → Type 0 = λ id. IsType schema id.kind in
      let none : ℕ → Type 0 = λ place. place < 0 in
      record {
        checked = one_fine (InBox None area) (ap (verdicts of_type) rolls ∙ fold-roll-Filter (List Verdict) (verdicts_step of_type) o);
        ids = subst (All types) (sym (ap ids_in rolls ∙ fold-roll-Filter (List Rid) ids_step o)) (All-nil types);
        places = subst (All none) (sym (ap places_in rolls ∙ fold-roll-Filter (List ℕ) places_step o)) (All-nil none);
      }

  query_fits : (area : Bounds) → IsQueryOf schema 0 (query_in round area)
  query_fits area = record {
    kind = alone (IsType schema) round.kind lt;
    filter = box_fits area;
    sort = All-nil _;
  }

  -- ---- requests

  pub insertion_is : IsOneOf schema (insertion schema round)
  insertion_is = record {
    fitting = record {
      types = All-nil _;
      queries = All-nil _;
      names = All-nil _;
      values = tt;
      actions = alone (IsActionOf schema) _ (alone (IsNewOf schema) (feature_of schema round) is_new);
      stored = All-nil _;
      periods = All-nil _;
      kept = All-nil _;
    };
    makes_none = refl;
  }

  pub locking_is : IsOneOf schema (locking round)
  locking_is = record {
    fitting = record {
      types = All-nil _;
      queries = alone (IsQueryOf schema 0) _ (query_fits (square round));
      names = All-nil _;
      values = tt;
      actions = All-nil _;
      stored = All-nil _;
      periods = alone (λ (p : ℕ). 1 ≤ p) 1 (omega arith);
      kept = All-nil _;
    };
    makes_none = refl;
  }

  pub counting_is : IsOneOf schema (counting round)
  counting_is = record {
    fitting = record {
      types = All-nil _;
      queries = alone (IsQueryOf schema 0) _ (query_fits (surroundings round));
      names = All-nil _;
      values = tt;
      actions = All-nil _;
      stored = All-nil _;
      periods = All-nil _;
      kept = All-nil _;
    };
    makes_none = refl;
  }

  pub deletion_is : IsOneOf schema (deletion round)
  deletion_is = record {
    fitting = record {
      types = All-nil _;
      queries = All-nil _;
      names = All-nil _;
      values = tt;
      actions = alone (IsActionOf schema) _ (lt, box_fits (square round));
      stored = All-nil _;
      periods = All-nil _;
      kept = All-nil _;
    };
    makes_none = refl;
  }

  deletions_are : (b : Bool) → All (IsOneOf schema) (if b then deletion round ∷ [] else [])
  deletions_are true = alone (IsOneOf schema) (deletion round) deletion_is
  deletions_are false = All-nil (IsOneOf schema)

  pub all_are : All (IsOneOf schema) (requests_of schema round)
  all_are =
      let after_counting = deletions_of round in
      let after_locking = counting round ∷ after_counting in
      All-cons (IsOneOf schema) (insertion schema round) (locking round ∷ after_locking) insertion_is
      (All-cons (IsOneOf schema) (locking round) after_locking locking_is
      (All-cons (IsOneOf schema) (counting round) after_counting counting_is (deletions_are (round.number % 4 == 3))))
