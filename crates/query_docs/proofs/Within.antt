-- The features and parameters that a filter names, where it was read: the features are of types of the schema, and the parameters
-- are listed.
use Rattle.std.proofs.Common.{◌≡◌, ◌⊎◌, inl, inr, ℕ, ◌<◌, Bool, true, false, List, [], ◌∷◌, ◌++◌, length, map, Option, Some, None, Result, Ok, Err, refl, sym, ap, subst, ◌∙◌}
use Rattle.std.specs.Prelude.{codes, option_map, if◌then◌else◌, nat_lt, All}
use Rattle.std.specs.List.{flat_map}
use Rattle.std.proofs.lemmas.List.Concat.{flat_map-cons}
use Rattle.std.proofs.lemmas.List.Elements.{All-append, All-nil, All-cons, All-head, All-tail, All-push, All-map, All-weaker}
use Rattle.std.proofs.lemmas.Option.{slice_get_within}
use Rattle.wfs_ends.specs.Read.{◌>>=◌, each}
use Rattle.wfs_ends.proofs.Turns.{bind_ok, if_ok, ok_is, chosen}
use Rattle.doc_tree.specs.declared.tree.Element.{Element, out-Element}
use Rattle.geom_core.specs.Plane.{Bounds}
use Rattle.feature_values.specs.Ids.{is_dot, type_named, number_of, rid_of}
use Rattle.feature_values.specs.Reads.{read_as}
use Rattle.std.specs.List.{before_first, after_first}
use Rattle.feature_values.specs.declared.schema.ValueKind.{ValueKind}
use Rattle.feature_values.specs.declared.schema.FeatureType.{FeatureType}
use Rattle.feature_values.specs.declared.schema.Schema.{Schema}
use Rattle.feature_values.specs.declared.value.Value.{Value}
use Rattle.feature_values.specs.declared.fault.ValueFault.{ValueFault}
use Rattle.feature_values.specs.declared.feature.Rid.{Rid}
use Rattle.fes_filter.specs.Check.{is_same, type_in, most_operators}
use Rattle.fes_filter.specs.declared.expr.Expr.{Expr}
use Rattle.fes_filter.specs.declared.expr.Expr.TheVariants.{Property, Literal, Parameter}
use Rattle.fes_filter.specs.declared.expr.By.{By}
use Rattle.fes_filter.specs.declared.expr.By.TheVariants.{Less}
use Rattle.fes_filter.specs.declared.ids.IdRef.{IdRef}
use Rattle.fes_filter.specs.declared.filter.Filter.{Filter}
use Rattle.fes_filter.specs.declared.filter.Filter.TheVariants.{Both, Either, Not, Compare, Like, IsNull, Between, Ids, InBox, Meets, Apart, rolls-Both, rolls-Either, rolls-Not, rolls-Compare, rolls-Like, rolls-IsNull, rolls-Between, rolls-Ids, rolls-InBox, rolls-Meets, rolls-Apart}
use Rattle.fes_filter.specs.declared.filter.Filter.TheOpen.{Filter-F}
use Rattle.fes_filter.specs.declared.filter.Filter.TheFolds.{fold-roll-Filter}
use Rattle.fes_docs.specs.declared.fault.FilterDocFault.{FilterDocFault}
use Rattle.fes_docs.specs.declared.fault.FilterDocFault.TheVariants.{Shape}
use Rattle.fes_docs.specs.declared.operator.Predicate.{Predicate}
use Rattle.fes_docs.specs.declared.operator.Predicate.TheVariants as Test
use Rattle.fes_docs.specs.declared.operator.Operator.{Operator}
use Rattle.fes_docs.specs.Names.{is_fes, local_of, text_of, value_of, named, no_more, no_others, first_in, plain}
use Rattle.fes_docs.specs.Operators.{operator_in}
use Rattle.fes_docs.specs.Uses.{name_in, place_named, or_undeclared, place_of}
use Rattle.fes_docs.specs.Ids.{id_as, id_in, id_at, next_id, known_or_nobody}
use Rattle.fes_docs.specs.Sides.{Sides, property_at, comparable_at, suited, or_types, literal_as, literal_at, beside, right_of, left_of, sides_from, sides_of, fold_of, action_of, only_matches, folded, compare_of, bound_at, bounds_of, only_case, between_of, null_of}
use Rattle.fes_docs.specs.Spatial.{shape_at, envelope_alone, box_of, operands_of}
use Rattle.fes_docs.specs.Filters.{Reading, counted, only_id, predicate_of, next_operator, several, operation, operator_by, operator_of, ids_in, content_from, filter_of}
use Rattle.fes_docs.specs.Filters.{one as one_operator}
use Rattle.fes_docs.proofs.Beside.{one_of_two}
use Rattle.fes_docs.proofs.Likes.{IsLike, like_is}
use Rattle.fes_docs.proofs.Named.{and_then_some, map_some, first_named}
use Rattle.fes_docs.proofs.Children.{HoldAll, by_children}
use Rattle.fes_docs.proofs.Readings.{operator_is}
use Rattle.fes_docs.proofs.Parts.{enough, through, all_through}
use Rattle.request_parameters.proofs.Named.{is_type}
use Rattle.wfs_model.specs.OfSchema.{IsType, known_id, id_place, ids_step, places_step, places_in}
use Rattle.wfs_model.specs.OfSchema.{place_of as expr_places, ids_in as features_in}

-- how many parameters are listed
abbrev pub count_of : Option (List (List ℕ)) → ℕ
count_of None = 0
count_of (Some names) = length names

-- ---- parameters

place_found : (names : List (List ℕ)) (name : List ℕ) (place : ℕ) → place_named names name ≡ Some place → place < length names
unfolding place_named
place_found names name place h =
    let one = first_named (λ n. n) name place names h in
    slice_get_within names place one.0 one.1

declared : (names : List (List ℕ)) (name : List ℕ) (found : Option ℕ) (place : ℕ) → place_named names name ≡ found → or_undeclared name found ≡ Ok (Some place) → place < length names
declared names name None place is h = absurd cc
declared names name (Some found) place is h =
    let same : Some found ≡ Some place = ok_is FilterDocFault (Some found) (Some place) h in
    place_found names name place (is ∙ same)

used : (names : List (List ℕ)) (name : Option (List ℕ)) (text : List ℕ) (place : ℕ) → name_in text ≡ name → place_of (Some names) text ≡ Ok (Some place) → place < length names
unfolding place_of
used names None text place is h = absurd (cc (ok_is FilterDocFault None (Some place) (rw is at h)))
used names (Some name) text place is h = declared names name (place_named names name) place refl (rw is at h)

place_within : (parameters : Option (List (List ℕ))) (text : List ℕ) (place : ℕ) → place_of parameters text ≡ Ok (Some place) → place < count_of parameters
unfolding place_of
place_within None text place h = absurd (cc (ok_is FilterDocFault None (Some place) h))
place_within (Some names) text place h = used names (name_in text) text place refl h

-- ---- types

rid_type : (schema : Schema) (text : List ℕ) (id : Rid) → rid_of schema text ≡ Some id → IsType schema id.kind
unfolding rid_of
rid_type schema text id h =
    let number = and_then_some (λ n. option_map (λ k. record { kind = k; number = n }) (type_named schema (before_first is_dot text))) (number_of (after_first is_dot text)) id h in
    let kind = map_some (λ k. record { kind = k; number = number.0 }) (type_named schema (before_first is_dot text)) id number.2 in
    subst (λ (i : Rid). IsType schema i.kind) kind.2 (is_type schema (before_first is_dot text) kind.0 kind.1)

-- ---- lists of lists

one : {A : Type 0} (P : A → Type 0) (x : A) → P x → All P (x ∷ [])
one P x h = All-cons P x [] h (All-nil P)

flat : {A B : Type 0} (P : B → Type 0) (f : A → List B) (xs : List A) → All (λ x. All P (f x)) xs → All P (flat_map f xs)
flat P f [] h = All-nil P
flat P f (x ∷ xs) h =
    let head : All P (f x) = All-head (λ x. All P (f x)) x xs h in
    let tail : All (λ x. All P (f x)) xs = All-tail (λ x. All P (f x)) x xs h in
    subst (All P) (sym (flat_map-cons f x xs)) (All-append P (f x) (flat_map f xs) head (flat P f xs tail))

module _ (parameters : Option (List (List ℕ))) (schema : Schema) where
  abbrev IsListed : ℕ → Type 0
  IsListed place = place < count_of parameters

  abbrev OfType : Rid → Type 0
  OfType id = IsType schema id.kind

  abbrev Small : Expr → Type 0
  Small x = All IsListed (expr_places x)

  -- what a filter names is there
  pub record IsWithin (filter : Filter) : Type 0 where
    pub ids : All OfType (features_in filter)
    pub places : All IsListed (places_in filter)

  -- ---- sides

  abbrev Bounded : Option ℕ → Type 0
  Bounded place = (p : ℕ) → place ≡ Some p → IsListed p

  value_small : (name : List ℕ) (r : Result Value ValueFault) (x : Expr) → or_types name r ≡ Ok x → Small x
  value_small name (Ok v) x h = subst Small (ok_is FilterDocFault (Literal v) x h) (All-nil IsListed)
  value_small name (Err fault) x h = absurd cc

  literal_small : (k : ValueKind) (name : List ℕ) (place : Option ℕ) (text : List ℕ) (x : Expr) → Bounded place → literal_as k name place text ≡ Ok x → Small x
  literal_small k name (Some place) text x bound h = subst Small (ok_is FilterDocFault (Parameter place) x h) (one IsListed place (bound place refl))
  literal_small k name None text x bound h = value_small name (read_as k text) x h

  literal_bound : (e : Element) (place : Option ℕ) → literal_at parameters e ≡ Ok place → Bounded place
  unfolding literal_at
  literal_bound e place h = λ p is.
      let read = bind_ok (plain e) (λ _. place_of parameters (text_of e)) place h in
      place_within parameters (text_of e) p (read.2 ∙ ap Ok is)

  module _ (of_type : Option FeatureType) where
    beside_small : (k : ValueKind) (name : List ℕ) (e : Element) (x : Expr) → beside parameters of_type k name e ≡ Ok x → Small x
    unfolding beside
    beside_small k name e x h = by (one_of_two (is_fes (codes "ValueReference") e) (is_fes (codes "Literal") e) _ _ _ x h)
      where
        by : ((property_at of_type e >>= λ p. suited (is_same k p.1) e >>= λ _. Ok (Property p.0)) ≡ Ok x) ⊎ ((literal_at parameters e >>= λ place. literal_as k name place (text_of e)) ≡ Ok x) → Small x
        by (inl h) =
            let p = bind_ok (property_at of_type e) (λ p. suited (is_same k p.1) e >>= λ _. Ok (Property p.0)) x h in
            let s = bind_ok (suited (is_same k p.0.1) e) (λ _. Ok (Property p.0.0)) x p.2 in
            subst Small (ok_is FilterDocFault (Property p.0.0) x s.2) (All-nil IsListed)
        by (inr h) =
            let at = bind_ok (literal_at parameters e) (λ place. literal_as k name place (text_of e)) x h in
            literal_small k name at.0 (text_of e) x (literal_bound e at.0 at.1) at.2

    abbrev SidesSmall : Sides → Type 0
    SidesSmall s = Small s.0 × Small s.1

    right_small : (whole e : Element) (es : List Element) (p : ℕ × ValueKind) (s : Sides) → right_of parameters of_type whole e p es ≡ Ok s → SidesSmall s
    unfolding right_of
    right_small whole e es p s h =
        let f = bind_ok (first_in whole es) _ s h in
        let right = bind_ok (beside parameters of_type p.1 (text_of e) f.0.0) _ s f.2 in
        let end = bind_ok (no_more f.0.1) _ s right.2 in
        subst SidesSmall (ok_is FilterDocFault (Property p.0, right.0, p.1) s end.2) (All-nil IsListed, beside_small p.1 (text_of e) f.0.0 right.0 right.1)

    left_small : (by : By) (whole e : Element) (es : List Element) (place : Option ℕ) (s : Sides) → Bounded place → left_of of_type by whole e place es ≡ Ok s → SidesSmall s
    unfolding left_of
    left_small by whole e es place s bound h =
        let f = bind_ok (first_in whole es) _ s h in
        let name = bind_ok (named (codes "ValueReference") f.0.0) _ s f.2 in
        let p = bind_ok (comparable_at of_type by f.0.0) _ s name.2 in
        let left = bind_ok (literal_as p.0.1 (text_of f.0.0) place (text_of e)) _ s p.2 in
        let end = bind_ok (no_more f.0.1) _ s left.2 in
        subst SidesSmall (ok_is FilterDocFault (left.0, Property p.0.0, p.0.1) s end.2) (literal_small p.0.1 (text_of f.0.0) place (text_of e) left.0 bound left.1, All-nil IsListed)

    first_small : (by : By) (whole e : Element) (rest : List Element) (s : Sides)
        → ((comparable_at of_type by e >>= λ p. right_of parameters of_type whole e p rest) ≡ Ok s) ⊎ ((literal_at parameters e >>= λ place. left_of of_type by whole e place rest) ≡ Ok s) → SidesSmall s
    first_small by whole e rest s (inl h) =
        let p = bind_ok (comparable_at of_type by e) (λ p. right_of parameters of_type whole e p rest) s h in
        right_small whole e rest p.0 s p.2
    first_small by whole e rest s (inr h) =
        let place = bind_ok (literal_at parameters e) (λ place. left_of of_type by whole e place rest) s h in
        left_small by whole e rest place.0 s (literal_bound e place.0 place.1) place.2

    sides_small : (by : By) (e : Element) (s : Sides) → sides_of parameters of_type by e ≡ Ok s → SidesSmall s
    unfolding sides_of sides_from
    sides_small by e s h =
        let f = bind_ok (first_in e (out-Element e).children) _ s h in
        first_small by e f.0.0 f.0.1 s (one_of_two (is_fes (codes "ValueReference") f.0.0) (is_fes (codes "Literal") f.0.0) _ _ _ s f.2)

    -- ---- comparisons and ranges

    both_sides : (f : Filter) (a b : Expr) → features_in f ≡ [] → places_in f ≡ expr_places a ++ expr_places b → Small a → Small b → IsWithin f
    both_sides f a b ids places l r = record {
      ids = subst (All OfType) (sym ids) (All-nil OfType);
      places = subst (All IsListed) (sym places) (All-append IsListed (expr_places a) (expr_places b) l r);
    }

    compare_within : (by : By) (e : Element) (f : Filter) → compare_of parameters of_type by e ≡ Ok f → IsWithin f
    unfolding compare_of
    compare_within by e f h =
        let fold = bind_ok (fold_of by e) _ f h in
        let action = bind_ok (action_of e) _ f fold.2 in
        let only = bind_ok (only_matches e) _ f action.2 in
        let s = bind_ok (sides_of parameters of_type by e) _ f only.2 in
        let end = bind_ok (folded fold.0 s.0.2) _ f s.2 in
        let small = sides_small by e s.0 s.1 in
        let o : Filter-F Filter = Filter-F.Compare by s.0.0 s.0.1 fold.0 in
        let rolls = sym (rolls-Compare by s.0.0 s.0.1 fold.0) in
        subst IsWithin (ok_is FilterDocFault (Compare by s.0.0 s.0.1 fold.0) f end.2)
        (both_sides (Compare by s.0.0 s.0.1 fold.0) s.0.0 s.0.1 (ap features_in rolls ∙ fold-roll-Filter (List Rid) ids_step o) (ap places_in rolls ∙ fold-roll-Filter (List ℕ) places_step o) small.0 small.1)

    bound_small : (local : List ℕ) (k : ValueKind) (name : List ℕ) (e : Element) (x : Expr) → bound_at local parameters of_type k name e ≡ Ok x → Small x
    unfolding bound_at
    bound_small local k name e x h =
        let is = bind_ok (named local e) _ x h in
        let none = bind_ok (no_others [] e) _ x is.2 in
        let f = bind_ok (first_in e (out-Element e).children) _ x none.2 in
        let read = bind_ok (beside parameters of_type k name f.0.0) _ x f.2 in
        let end = bind_ok (no_more f.0.1) _ x read.2 in
        beside_small k name f.0.0 x (read.1 ∙ end.2)

    bounds_small : (k : ValueKind) (name : List ℕ) (whole : Element) (es : List Element) (b : Expr × Expr) → bounds_of parameters of_type k name whole es ≡ Ok b → Small b.0 × Small b.1
    unfolding bounds_of
    bounds_small k name whole es b h =
        let l = bind_ok (first_in whole es) _ b h in
        let low = bind_ok (bound_at (codes "LowerBoundary") parameters of_type k name l.0.0) _ b l.2 in
        let u = bind_ok (first_in whole l.0.1) _ b low.2 in
        let high = bind_ok (bound_at (codes "UpperBoundary") parameters of_type k name u.0.0) _ b u.2 in
        let end = bind_ok (no_more u.0.1) _ b high.2 in
        subst (λ (b : Expr × Expr). Small b.0 × Small b.1) (ok_is FilterDocFault (low.0, high.0) b end.2)
        (bound_small (codes "LowerBoundary") k name l.0.0 low.0 low.1, bound_small (codes "UpperBoundary") k name u.0.0 high.0 high.1)

    between_within : (e : Element) (f : Filter) → between_of parameters of_type e ≡ Ok f → IsWithin f
    unfolding between_of
    between_within e f h =
        let none = bind_ok (only_case e) _ f h in
        let a = bind_ok (first_in e (out-Element e).children) _ f none.2 in
        let is = bind_ok (named (codes "ValueReference") a.0.0) _ f a.2 in
        let p = bind_ok (comparable_at of_type Less a.0.0) _ f is.2 in
        let b = bind_ok (bounds_of parameters of_type p.0.1 (text_of a.0.0) e a.0.1) _ f p.2 in
        let small = bounds_small p.0.1 (text_of a.0.0) e a.0.1 b.0 b.1 in
        let o : Filter-F Filter = Filter-F.Between p.0.0 b.0.0 b.0.1 in
        let rolls = sym (rolls-Between p.0.0 b.0.0 b.0.1) in
        subst IsWithin (ok_is FilterDocFault (Between p.0.0 b.0.0 b.0.1) f b.2)
        (both_sides (Between p.0.0 b.0.0 b.0.1) b.0.0 b.0.1 (ap features_in rolls ∙ fold-roll-Filter (List Rid) ids_step o) (ap places_in rolls ∙ fold-roll-Filter (List ℕ) places_step o) small.0 small.1)

    -- ---- operators that name neither

    names_none : (f : Filter) → features_in f ≡ [] → places_in f ≡ [] → IsWithin f
    names_none f ids places = record { ids = subst (All OfType) (sym ids) (All-nil OfType); places = subst (All IsListed) (sym places) (All-nil IsListed) }

    null_within : (e : Element) (f : Filter) → null_of of_type e ≡ Ok f → IsWithin f
    unfolding null_of
    null_within e f h =
        let none = bind_ok (only_case e) _ f h in
        let a = bind_ok (first_in e (out-Element e).children) _ f none.2 in
        let is = bind_ok (named (codes "ValueReference") a.0.0) _ f a.2 in
        let p = bind_ok (property_at of_type a.0.0) _ f is.2 in
        let end = bind_ok (no_more a.0.1) _ f p.2 in
        let rolls = sym (rolls-IsNull p.0.0) in
        subst IsWithin (ok_is FilterDocFault (IsNull p.0.0) f end.2)
        (names_none (IsNull p.0.0) (ap features_in rolls ∙ fold-roll-Filter (List Rid) ids_step (Filter-F.IsNull p.0.0)) (ap places_in rolls ∙ fold-roll-Filter (List ℕ) places_step (Filter-F.IsNull p.0.0)))

    box_named : (property : Option ℕ) (area : Bounds) → IsWithin (InBox property area)
    box_named property area =
        let rolls = sym (rolls-InBox property area) in
        names_none (InBox property area) (ap features_in rolls ∙ fold-roll-Filter (List Rid) ids_step (Filter-F.InBox property area)) (ap places_in rolls ∙ fold-roll-Filter (List ℕ) places_step (Filter-F.InBox property area))

    area_within : (e : Element) (es : List Element) (property : Option ℕ) (f : Filter) → (envelope_alone schema.srs e es >>= λ area. Ok (InBox property area)) ≡ Ok f → IsWithin f
    area_within e es property f h =
        let area = bind_ok (envelope_alone schema.srs e es) (λ area. Ok (InBox property area)) f h in
        subst IsWithin (ok_is FilterDocFault (InBox property area.0) f area.2) (box_named property area.0)

    box_within : (e : Element) (f : Filter) → box_of schema.srs of_type e ≡ Ok f → IsWithin f
    unfolding box_of
    box_within e f h =
        let none = bind_ok (no_others [] e) _ f h in
        let a = bind_ok (first_in e (out-Element e).children) _ f none.2 in
        elim (chosen (is_fes (codes "ValueReference") a.0.0) _ _ (Ok f) a.2) [
          | inl g ↦ let i = bind_ok (shape_at of_type a.0.0) _ f g.1 in area_within e a.0.1 (Some i.0) f i.2
          | inr g ↦ area_within e (out-Element e).children None f g.1
        ]

    meets_within : (e : Element) (f : Filter) → (operands_of schema.srs of_type e >>= λ o. Ok (Meets o.0 o.1)) ≡ Ok f → IsWithin f
    meets_within e f h =
        let o = bind_ok (operands_of schema.srs of_type e) (λ o. Ok (Meets o.0 o.1)) f h in
        let rolls = sym (rolls-Meets o.0.0 o.0.1) in
        subst IsWithin (ok_is FilterDocFault (Meets o.0.0 o.0.1) f o.2)
        (names_none (Meets o.0.0 o.0.1) (ap features_in rolls ∙ fold-roll-Filter (List Rid) ids_step (Filter-F.Meets o.0.0 o.0.1)) (ap places_in rolls ∙ fold-roll-Filter (List ℕ) places_step (Filter-F.Meets o.0.0 o.0.1)))

    apart_within : (e : Element) (f : Filter) → (operands_of schema.srs of_type e >>= λ o. Ok (Apart o.0 o.1)) ≡ Ok f → IsWithin f
    apart_within e f h =
        let o = bind_ok (operands_of schema.srs of_type e) (λ o. Ok (Apart o.0 o.1)) f h in
        let rolls = sym (rolls-Apart o.0.0 o.0.1) in
        subst IsWithin (ok_is FilterDocFault (Apart o.0.0 o.0.1) f o.2)
        (names_none (Apart o.0.0 o.0.1) (ap features_in rolls ∙ fold-roll-Filter (List Rid) ids_step (Filter-F.Apart o.0.0 o.0.1)) (ap places_in rolls ∙ fold-roll-Filter (List ℕ) places_step (Filter-F.Apart o.0.0 o.0.1)))

  like_within : (kind : Option ℕ) (f : Filter) → IsLike schema kind f → IsWithin f
  like_within kind f l =
      let rolls = sym (rolls-Like l.property l.parts) in
      subst IsWithin (sym l.is)
      (names_none (type_in schema kind) (Like l.property l.parts) (ap features_in rolls ∙ fold-roll-Filter (List Rid) ids_step (Filter-F.Like l.property l.parts)) (ap places_in rolls ∙ fold-roll-Filter (List ℕ) places_step (Filter-F.Like l.property l.parts)))

  -- ---- identifiers

  record IdWithin (id : IdRef) : Type 0 where
    known : All OfType (known_id id)
    listed : All IsListed (id_place id)

  known_within : (text : List ℕ) (found : Option Rid) → rid_of schema text ≡ found → IdWithin (known_or_nobody found)
  known_within text None is = record { known = All-nil OfType; listed = All-nil IsListed }
  known_within text (Some id) is = record { known = one OfType id (rid_type schema text id is); listed = All-nil IsListed }

  as_within : (place : Option ℕ) (text : List ℕ) → Bounded place → IdWithin (id_as schema place text)
  as_within (Some place) text bound = record { known = All-nil OfType; listed = one IsListed place (bound place refl) }
  as_within None text bound = known_within text (rid_of schema text) refl

  value_within : (e : Element) (value : Option (List ℕ)) (id : IdRef) → id_in parameters schema e value ≡ Ok id → IdWithin id
  value_within e None id h = absurd cc
  value_within e (Some text) id h =
      let place = bind_ok (place_of parameters text) (λ place. Ok (id_as schema place text)) id h in
      subst IdWithin (ok_is FilterDocFault (id_as schema place.0 text) id place.2) (as_within place.0 text (λ p is. place_within parameters text p (place.1 ∙ ap Ok is)))

  id_within : (e : Element) (id : IdRef) → id_at parameters schema e ≡ Ok id → IdWithin id
  unfolding id_at
  id_within e id h =
      let read = bind_ok (id_in parameters schema e (value_of (codes "rid") e)) _ id h in
      let none = bind_ok (no_others (codes "rid" ∷ []) e) _ id read.2 in
      let end = bind_ok (no_more (out-Element e).children) _ id none.2 in
      value_within e (value_of (codes "rid") e) id (read.1 ∙ end.2)

  ids_within : (ids : List IdRef) → All IdWithin ids → IsWithin (Ids ids)
  ids_within ids all =
      let rolls = sym (rolls-Ids ids) in
      record {
        ids = subst (All OfType) (sym (ap features_in rolls ∙ fold-roll-Filter (List Rid) ids_step (Filter-F.Ids ids))) (flat OfType known_id ids (All-weaker IdWithin (λ id. All OfType (known_id id)) (λ id w. w.known) ids all));
        places = subst (All IsListed) (sym (ap places_in rolls ∙ fold-roll-Filter (List ℕ) places_step (Filter-F.Ids ids))) (flat IsListed id_place ids (All-weaker IdWithin (λ id. All IsListed (id_place id)) (λ id w. w.listed) ids all));
      }

  only_within : (e : Element) (f : Filter) → only_id parameters schema e ≡ Ok f → IsWithin f
  only_within e f h =
      let id = bind_ok (id_at parameters schema e) (λ id. Ok (Ids (id ∷ []))) f h in
      subst IsWithin (ok_is FilterDocFault (Ids (id.0 ∷ [])) f id.2) (ids_within (id.0 ∷ []) (one IdWithin id.0 (id_within e id.0 id.1)))

  each_within : (es : List Element) (acc all : List IdRef) → All IdWithin acc → each (next_id parameters schema) acc es ≡ Ok all → All IdWithin all
  unfolding each next_id
  each_within [] acc all so_far h = subst (All IdWithin) (ok_is FilterDocFault acc all h) so_far
  each_within (e ∷ es) acc all so_far h =
      let x = bind_ok (next_id parameters schema acc e) (λ more. each (next_id parameters schema) more es) all h in
      let is = bind_ok (named (codes "ResourceId") e) _ x.0 x.1 in
      let id = bind_ok (id_at parameters schema e) (λ id. Ok (acc ++ id ∷ [])) x.0 is.2 in
      let more : All IdWithin x.0 = subst (All IdWithin) (ok_is FilterDocFault (acc ++ id.0 ∷ []) x.0 id.2) (All-push IdWithin acc id.0 so_far (id_within e id.0 id.1)) in
      each_within es x.0 all more x.2

  module _ (kind : Option ℕ) where
    abbrev of_type : Option FeatureType
    of_type = type_in schema kind

    predicate_within : (p : Predicate) (e : Element) (f : Filter) → predicate_of parameters schema kind e p ≡ Ok f → IsWithin f
    unfolding predicate_of
    predicate_within (Test.Compare by) e f h = compare_within of_type by e f h
    predicate_within Test.Like e f h = like_within kind f (like_is schema kind e f h)
    predicate_within Test.Null e f h = null_within of_type e f h
    predicate_within Test.Between e f h = between_within of_type e f h
    predicate_within Test.Bbox e f h = box_within of_type e f h
    predicate_within Test.Intersects e f h = meets_within of_type e f h
    predicate_within Test.Disjoint e f h = apart_within of_type e f h
    predicate_within Test.ResourceId e f h = only_within e f h

    -- ---- operators of operators

    abbrev read : Element → Reading
    read = operator_of parameters schema kind

    abbrev inner : Element → List Reading
    inner e = map read (out-Element e).children

    abbrev Fine : Element → Type 0
    Fine e = (n m : ℕ) (f : Filter) → read e n ≡ Ok (f, m) → IsWithin f

    abbrev AllFine : List Element → Type 0
    AllFine = HoldAll Fine

    through_fine : (es : List Element) → AllFine es → (n : ℕ) (found : List Filter × ℕ) → through (map read es) n ≡ Ok found → All IsWithin found.0
    through_fine [] all n found h = subst (λ (x : List Filter × ℕ). All IsWithin x.0) (ok_is FilterDocFault ([], n) found h) (All-nil IsWithin)
    through_fine (e ∷ es) all n found h =
        let x = bind_ok (read e n) _ found h in
        let y = bind_ok (through (map read es) x.0.1) _ found x.2 in
        subst (λ (z : List Filter × ℕ). All IsWithin z.0) (ok_is FilterDocFault (x.0.0 ∷ y.0.0, y.0.1) found y.2)
        (All-cons IsWithin x.0.0 y.0.0 (all.0 n x.0.1 x.0.0 x.1) (through_fine es all.1 x.0.1 y.0 y.1))

    several_fine : (name : List ℕ) (es : List Element) → AllFine es → (k : ℕ) (found : List Filter × ℕ) → several name (map read es) k ≡ Ok found → All IsWithin found.0
    unfolding several
    several_fine name es all k found h =
        let some = bind_ok (each next_operator ([], k) (map read es)) _ found h in
        through_fine es all k found (sym (all_through (map read es) k) ∙ some.1 ∙ ap Ok (enough (nat_lt (length some.0.0) 2) (Shape name) some.0 found some.2).1)

    parts_ids : (fs : List Filter) → All IsWithin fs → All OfType (flat_map (λ part. part) (map features_in fs))
    parts_ids fs all = flat OfType (λ part. part) (map features_in fs) (All-map (λ part. All OfType part) features_in fs (All-weaker IsWithin (λ f. All OfType (features_in f)) (λ f w. w.ids) fs all))

    parts_places : (fs : List Filter) → All IsWithin fs → All IsListed (flat_map (λ part. part) (map places_in fs))
    parts_places fs all = flat IsListed (λ part. part) (map places_in fs) (All-map (λ part. All IsListed part) places_in fs (All-weaker IsWithin (λ f. All IsListed (places_in f)) (λ f w. w.places) fs all))

    both_within : (fs : List Filter) → All IsWithin fs → IsWithin (Both fs)
    both_within fs all =
        let rolls = sym (rolls-Both fs) in
        record {
          ids = subst (All OfType) (sym (ap features_in rolls ∙ fold-roll-Filter (List Rid) ids_step (Filter-F.Both fs))) (parts_ids fs all);
          places = subst (All IsListed) (sym (ap places_in rolls ∙ fold-roll-Filter (List ℕ) places_step (Filter-F.Both fs))) (parts_places fs all);
        }

    either_within : (fs : List Filter) → All IsWithin fs → IsWithin (Either fs)
    either_within fs all =
        let rolls = sym (rolls-Either fs) in
        record {
          ids = subst (All OfType) (sym (ap features_in rolls ∙ fold-roll-Filter (List Rid) ids_step (Filter-F.Either fs))) (parts_ids fs all);
          places = subst (All IsListed) (sym (ap places_in rolls ∙ fold-roll-Filter (List ℕ) places_step (Filter-F.Either fs))) (parts_places fs all);
        }

    not_within : (f : Filter) → IsWithin f → IsWithin (Not f)
    not_within f w =
        let rolls = sym (rolls-Not f) in
        record {
          ids = subst (All OfType) (sym (ap features_in rolls ∙ fold-roll-Filter (List Rid) ids_step (Filter-F.Not f))) w.ids;
          places = subst (All IsListed) (sym (ap places_in rolls ∙ fold-roll-Filter (List ℕ) places_step (Filter-F.Not f))) w.places;
        }

    abbrev group : (List Filter → Filter) → Element → ℕ → Result (Filter × ℕ) FilterDocFault
    group build e k = no_others [] e >>= λ _. several (local_of e) (inner e) k >>= λ found. Ok (build found.0, found.1)

    group_fine : (build : List Filter → Filter) → ((fs : List Filter) → All IsWithin fs → IsWithin (build fs)) → (e : Element) → AllFine (out-Element e).children → (k m : ℕ) (f : Filter) → group build e k ≡ Ok (f, m) → IsWithin f
    group_fine build is e all k m f h =
        let none = bind_ok (no_others [] e) _ (f, m) h in
        let found = bind_ok (several (local_of e) (inner e) k) _ (f, m) none.2 in
        subst (λ (x : Filter × ℕ). IsWithin x.0) (ok_is FilterDocFault (build found.0.0, found.0.1) (f, m) found.2)
        (is found.0.0 (several_fine (local_of e) (out-Element e).children all k found.0 found.1))

    one_fine : (name : List ℕ) (es : List Element) (k : ℕ) (found : Filter × ℕ) → AllFine es → one_operator name es (map read es) k ≡ Ok found → IsWithin found.0
    one_fine name [] k found all h = absurd cc
    one_fine name (e ∷ es) k found all h =
        let x = bind_ok (read e k) _ found h in
        let end = bind_ok (no_more es) _ found x.2 in
        all.0 k found.1 found.0 (x.1 ∙ end.2)

    operation_fine : (operator : Operator) (e : Element) → AllFine (out-Element e).children → (k m : ℕ) (f : Filter) → operation parameters schema kind e (inner e) operator k ≡ Ok (f, m) → IsWithin f
    unfolding operation
    operation_fine Operator.And e all k m f h = group_fine Both both_within e all k m f h
    operation_fine Operator.Or e all k m f h = group_fine Either either_within e all k m f h
    operation_fine Operator.Not e all k m f h =
        let none = bind_ok (no_others [] e) _ (f, m) h in
        let found = bind_ok (one_operator (local_of e) (out-Element e).children (inner e) k) _ (f, m) none.2 in
        subst (λ (x : Filter × ℕ). IsWithin x.0) (ok_is FilterDocFault (Not found.0.0, found.0.1) (f, m) found.2)
        (not_within found.0.0 (one_fine (local_of e) (out-Element e).children k found.0 all found.1))
    operation_fine (Operator.Predicate p) e all k m f h =
        let x = bind_ok (predicate_of parameters schema kind e p) _ (f, m) h in
        subst (λ (y : Filter × ℕ). IsWithin y.0) (ok_is FilterDocFault (x.0, k) (f, m) x.2) (predicate_within p e x.0 x.1)

    step_fine : (e : Element) → AllFine (out-Element e).children → Fine e
    unfolding operator_by
    step_fine e all n m f h =
        let operator = bind_ok (operator_in (out-Element e).name) _ (f, m) (sym (operator_is parameters schema kind e n) ∙ h) in
        let k = bind_ok (counted n) _ (f, m) operator.2 in
        operation_fine operator.0 e all k.0 m f k.2

    fine : (e : Element) → Fine e
    fine = by_children Fine step_fine

    -- ---- the whole

    content_fine : (b : Bool) (e : Element) (es rest : List Element) (f : Filter) → (if b then ids_in parameters schema es else content_from parameters schema kind e rest) ≡ Ok f → IsWithin f
    unfolding content_from
    content_fine true e es rest f h =
        let ids = bind_ok (each (next_id parameters schema) [] es) (λ ids. Ok (Ids ids)) f h in
        subst IsWithin (ok_is FilterDocFault (Ids ids.0) f ids.2) (ids_within ids.0 (each_within es [] ids.0 (All-nil IdWithin) ids.1))
    content_fine false e es rest f h =
        let found = bind_ok (read e most_operators) _ f h in
        let end = bind_ok (no_more rest) _ f found.2 in
        subst IsWithin (ok_is FilterDocFault found.0.0 f end.2) (fine e most_operators found.0.1 found.0.0 found.1)

    -- what a filter that was read names is there
    pub filter_within : (e : Element) (f : Filter) → filter_of parameters schema kind e ≡ Ok f → IsWithin f
    unfolding filter_of
    filter_within e f h =
        let whole = if_ok (is_fes (codes "Filter") e) _ (Shape (local_of e)) f h in
        let none = bind_ok (no_others [] e) _ f whole.1 in
        let a = bind_ok (first_in e (out-Element e).children) _ f none.2 in
        content_fine (is_fes (codes "ResourceId") a.0.0) a.0.0 (out-Element e).children a.0.1 f a.2
