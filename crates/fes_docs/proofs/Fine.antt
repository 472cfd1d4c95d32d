-- Nothing is wrong with an operator that was read and in which none stands.
use Rattle.std.proofs.Common.{◌≡◌, ◌⊎◌, inl, inr, ℕ, Bool, true, false, ◌&&◌, ◌||◌, not, List, [], ◌∷◌, Option, Some, None, Result, Ok, Err, refl, sym, ap, subst, ◌∙◌}
use Rattle.std.specs.Prelude.{codes, if◌then◌else◌}
use Rattle.wfs_ends.specs.Read.{◌>>=◌}
use Rattle.wfs_ends.proofs.Turns.{bind_ok, chosen, ok_is}
use Rattle.doc_tree.specs.declared.tree.Element.{Element, out-Element}
use Rattle.geom_core.specs.Plane.{Bounds}
use Rattle.geom_core.specs.declared.geometry.Geometry.{Geometry}
use Rattle.gml_docs.specs.Elements.{geometry_of}
use Rattle.feature_values.specs.Reads.{read_as}
use Rattle.feature_values.specs.declared.schema.ValueKind.{ValueKind}
use Rattle.feature_values.specs.declared.schema.FeatureType.{FeatureType}
use Rattle.feature_values.specs.declared.schema.Schema.{Schema}
use Rattle.feature_values.specs.declared.value.Value.{Value}
use Rattle.feature_values.specs.declared.fault.ValueFault.{ValueFault}
use Rattle.fes_filter.specs.Check.{Verdict, wanted, type_in, kind_of, is_words, is_equality, is_comparable, subject, compare_fault, between_fault, null_fault, like_fault, shape_fault, box_fault, verdicts_step, verdicts}
use Rattle.fes_filter.specs.Check.{compared as sides_fault}
use Rattle.fes_filter.specs.declared.expr.Expr.{Expr}
use Rattle.fes_filter.specs.declared.expr.Expr.TheVariants.{Property, Literal, Parameter}
use Rattle.fes_filter.specs.declared.expr.By.{By}
use Rattle.fes_filter.specs.declared.expr.By.TheVariants.{Less}
use Rattle.fes_filter.specs.declared.ids.IdRef.{IdRef}
use Rattle.fes_filter.specs.declared.filter.Filter.{Filter}
use Rattle.fes_filter.specs.declared.filter.Filter.TheVariants.{Compare, IsNull, Between, Ids, InBox, Meets, Apart, rolls-Compare, rolls-Like, rolls-IsNull, rolls-Between, rolls-Ids, rolls-InBox, rolls-Meets, rolls-Apart}
use Rattle.fes_filter.specs.declared.filter.Filter.TheOpen.{Filter-F}
use Rattle.fes_filter.specs.declared.filter.Filter.TheFolds.{fold-roll-Filter}
use Rattle.fes_docs.specs.declared.fault.FilterDocFault.{FilterDocFault}
use Rattle.fes_docs.specs.declared.operator.Predicate.{Predicate}
use Rattle.fes_docs.specs.declared.operator.Predicate.TheVariants as Test
use Rattle.fes_docs.specs.Names.{is_fes, text_of, value_of, named, no_more, no_others, first_in}
use Rattle.fes_docs.specs.Sides.{Sides, property_at, comparable_at, or_types, literal_as, literal_at, beside, right_of, left_of, sides_from, sides_of, fold_of, action_of, only_matches, folded, compare_of, bound_at, bounds_of, only_case, between_of, null_of, match_case}
use Rattle.fes_docs.specs.Spatial.{drawn, shape_at, envelope_alone, box_of, operands_of}
use Rattle.fes_docs.specs.Ids.{id_at}
use Rattle.fes_docs.specs.Filters.{only_id, predicate_of}
use Rattle.fes_docs.proofs.Compared.{may_fold}
use Rattle.fes_docs.proofs.Beside.{one_of_two}
use Rattle.fes_docs.proofs.Likes.{IsLike, like_is}
use Rattle.fes_docs.proofs.Suits.{at_kind, comparable_is, shape_is, Suits, own_suits, literal_suits, beside_suits}

-- ---- where case is left out

words_if : (b : Bool) (fault : FilterDocFault) (u : Unit {0}) → (if (true && not b) then Err fault else Ok tt) ≡ Ok u → b ≡ true
words_if true fault u e = refl
words_if false fault u e = absurd cc

-- case is left out of texts alone, and where they are compared for equality
folds_so : (by : By) (e : Element) (fold : Bool) (k : ValueKind) (u : Unit {0}) → fold_of by e ≡ Ok fold → folded fold k ≡ Ok u → (not fold || (is_words k && is_equality by)) ≡ true
unfolding fold_of folded
folds_so by e true k u h g = rw (words_if (is_words k) _ u g, may_fold (is_equality by) (value_of match_case e) h) refl
folds_so by e false k u h g = refl

module _ (parameters : Option (List (List ℕ))) (schema : Schema) (kind : Option ℕ) where
  abbrev of_type : Option FeatureType
  of_type = type_in schema kind

  -- ---- the sides of a comparison

  record SidesSuit (by : By) (s : Sides) : Type 0 where
    property : ℕ
    first : subject s.0 s.1 ≡ Some property
    at : kind_of of_type property ≡ Ok s.2
    comparable : is_comparable by s.2 ≡ true
    left : Suits of_type s.2 s.0
    right : Suits of_type s.2 s.1

  right_suits : (by : By) (whole e : Element) (es : List Element) (p : ℕ × ValueKind) (s : Sides) → comparable_at of_type by e ≡ Ok p → right_of parameters of_type whole e p es ≡ Ok s → SidesSuit by s
  unfolding right_of
  right_suits by whole e es p s h g =
      let f = bind_ok (first_in whole es) _ s g in
      let right = bind_ok (beside parameters of_type p.1 (text_of e) f.0.0) _ s f.2 in
      let end = bind_ok (no_more f.0.1) _ s right.2 in
      let own = comparable_is of_type by e p h in
      subst (SidesSuit by) (ok_is FilterDocFault (Property p.0, right.0, p.1) s end.2) (record {
        property = p.0;
        first = refl;
        at = own.0;
        comparable = own.1;
        left = own_suits of_type p.1 p.0 own.0;
        right = beside_suits of_type parameters p.1 (text_of e) f.0.0 right.0 right.1;
      })

  behind_value : (name : List ℕ) (r : Result Value ValueFault) (x : Expr) (i : ℕ) → or_types name r ≡ Ok x → subject x (Property i) ≡ Some i
  behind_value name (Ok v) x i e = subst (λ (y : Expr). subject y (Property i) ≡ Some i) (ok_is FilterDocFault (Literal v) x e) refl
  behind_value name (Err fault) x i e = absurd cc

  -- a literal is no property, so the one behind it is the first
  behind_literal : (k : ValueKind) (name : List ℕ) (place : Option ℕ) (text : List ℕ) (x : Expr) (i : ℕ) → literal_as k name place text ≡ Ok x → subject x (Property i) ≡ Some i
  behind_literal k name (Some place) text x i e = subst (λ (y : Expr). subject y (Property i) ≡ Some i) (ok_is FilterDocFault (Parameter place) x e) refl
  behind_literal k name None text x i e = behind_value name (read_as k text) x i e

  left_suits : (by : By) (whole e : Element) (es : List Element) (place : Option ℕ) (s : Sides) → left_of of_type by whole e place es ≡ Ok s → SidesSuit by s
  unfolding left_of
  left_suits by whole e es place s g =
      let f = bind_ok (first_in whole es) _ s g in
      let name = bind_ok (named (codes "ValueReference") f.0.0) _ s f.2 in
      let p = bind_ok (comparable_at of_type by f.0.0) _ s name.2 in
      let left = bind_ok (literal_as p.0.1 (text_of f.0.0) place (text_of e)) _ s p.2 in
      let end = bind_ok (no_more f.0.1) _ s left.2 in
      let own = comparable_is of_type by f.0.0 p.0 p.1 in
      subst (SidesSuit by) (ok_is FilterDocFault (left.0, Property p.0.0, p.0.1) s end.2) (record {
        property = p.0.0;
        first = behind_literal p.0.1 (text_of f.0.0) place (text_of e) left.0 p.0.0 left.1;
        at = own.0;
        comparable = own.1;
        left = literal_suits of_type p.0.1 (text_of f.0.0) place (text_of e) left.0 left.1;
        right = own_suits of_type p.0.1 p.0.0 own.0;
      })

  first_suits : (by : By) (whole e : Element) (rest : List Element) (s : Sides)
      → ((comparable_at of_type by e >>= λ p. right_of parameters of_type whole e p rest) ≡ Ok s) ⊎ ((literal_at parameters e >>= λ place. left_of of_type by whole e place rest) ≡ Ok s) → SidesSuit by s
  first_suits by whole e rest s (inl h) =
      let p = bind_ok (comparable_at of_type by e) _ s h in
      right_suits by whole e rest p.0 s p.1 p.2
  first_suits by whole e rest s (inr h) =
      let place = bind_ok (literal_at parameters e) _ s h in
      left_suits by whole e rest place.0 s place.2

  sides_suit : (by : By) (e : Element) (s : Sides) → sides_of parameters of_type by e ≡ Ok s → SidesSuit by s
  unfolding sides_of sides_from
  sides_suit by e s h =
      let f = bind_ok (first_in e (out-Element e).children) _ s h in
      first_suits by e f.0.0 f.0.1 s (one_of_two (is_fes (codes "ValueReference") f.0.0) (is_fes (codes "Literal") f.0.0) _ _ _ s f.2)

  -- ---- verdicts

  -- one operator, with which nothing is wrong
  abbrev pub IsOne : Filter → Type 0
  IsOne f = verdicts of_type f ≡ Ok tt ∷ []

  sides_fine : (by : By) (s : Sides) (fold : Bool) → SidesSuit by s → (not fold || (is_words s.2 && is_equality by)) ≡ true → compare_fault of_type by s.0 s.1 fold ≡ Ok tt
  unfolding compare_fault sides_fault wanted
  sides_fine by s fold h folds = rw (h.left.known, h.right.known, h.first, h.at, h.comparable, h.left.suited, h.right.suited, folds) refl

  compare_fine : (by : By) (e : Element) (f : Filter) → compare_of parameters of_type by e ≡ Ok f → IsOne f
  unfolding compare_of
  compare_fine by e f h =
      let fold = bind_ok (fold_of by e) _ f h in
      let action = bind_ok (action_of e) _ f fold.2 in
      let only = bind_ok (only_matches e) _ f action.2 in
      let s = bind_ok (sides_of parameters of_type by e) _ f only.2 in
      let end = bind_ok (folded fold.0 s.0.2) _ f s.2 in
      let folds = folds_so by e fold.0 s.0.2 end.0 fold.1 end.1 in
      subst IsOne (ok_is FilterDocFault (Compare by s.0.0 s.0.1 fold.0) f end.2)
      (ap (verdicts of_type) (sym (rolls-Compare by s.0.0 s.0.1 fold.0)) ∙ fold-roll-Filter (List Verdict) (verdicts_step of_type) (Filter-F.Compare by s.0.0 s.0.1 fold.0)
      ∙ ap (λ v. v ∷ []) (sides_fine by s.0 fold.0 (sides_suit by e s.0 s.1) folds))

  -- ---- ranges and nulls

  bound_suits : (local : List ℕ) (k : ValueKind) (name : List ℕ) (e : Element) (x : Expr) → bound_at local parameters of_type k name e ≡ Ok x → Suits of_type k x
  unfolding bound_at
  bound_suits local k name e x h =
      let is = bind_ok (named local e) _ x h in
      let none = bind_ok (no_others [] e) _ x is.2 in
      let f = bind_ok (first_in e (out-Element e).children) _ x none.2 in
      let read = bind_ok (beside parameters of_type k name f.0.0) _ x f.2 in
      let end = bind_ok (no_more f.0.1) _ x read.2 in
      beside_suits of_type parameters k name f.0.0 x (read.1 ∙ end.2)

  bounds_suit : (k : ValueKind) (name : List ℕ) (whole : Element) (es : List Element) (b : Expr × Expr) → bounds_of parameters of_type k name whole es ≡ Ok b → Suits of_type k b.0 × Suits of_type k b.1
  unfolding bounds_of
  bounds_suit k name whole es b h =
      let l = bind_ok (first_in whole es) _ b h in
      let low = bind_ok (bound_at (codes "LowerBoundary") parameters of_type k name l.0.0) _ b l.2 in
      let u = bind_ok (first_in whole l.0.1) _ b low.2 in
      let high = bind_ok (bound_at (codes "UpperBoundary") parameters of_type k name u.0.0) _ b u.2 in
      let end = bind_ok (no_more u.0.1) _ b high.2 in
      subst (λ (b : Expr × Expr). Suits of_type k b.0 × Suits of_type k b.1) (ok_is FilterDocFault (low.0, high.0) b end.2)
      (bound_suits (codes "LowerBoundary") k name l.0.0 low.0 low.1, bound_suits (codes "UpperBoundary") k name u.0.0 high.0 high.1)

  range_fine : (i : ℕ) (k : ValueKind) (low high : Expr) → kind_of of_type i ≡ Ok k → is_comparable Less k ≡ true → Suits of_type k low → Suits of_type k high → between_fault of_type i low high ≡ Ok tt
  unfolding between_fault wanted
  range_fine i k low high at comparable l h = rw (at, l.known, h.known, comparable, l.suited, h.suited) refl

  between_fine : (e : Element) (f : Filter) → between_of parameters of_type e ≡ Ok f → IsOne f
  unfolding between_of
  between_fine e f h =
      let none = bind_ok (only_case e) _ f h in
      let a = bind_ok (first_in e (out-Element e).children) _ f none.2 in
      let is = bind_ok (named (codes "ValueReference") a.0.0) _ f a.2 in
      let p = bind_ok (comparable_at of_type Less a.0.0) _ f is.2 in
      let b = bind_ok (bounds_of parameters of_type p.0.1 (text_of a.0.0) e a.0.1) _ f p.2 in
      let own = comparable_is of_type Less a.0.0 p.0 p.1 in
      let suit = bounds_suit p.0.1 (text_of a.0.0) e a.0.1 b.0 b.1 in
      subst IsOne (ok_is FilterDocFault (Between p.0.0 b.0.0 b.0.1) f b.2)
      (ap (verdicts of_type) (sym (rolls-Between p.0.0 b.0.0 b.0.1)) ∙ fold-roll-Filter (List Verdict) (verdicts_step of_type) (Filter-F.Between p.0.0 b.0.0 b.0.1)
      ∙ ap (λ v. v ∷ []) (range_fine p.0.0 p.0.1 b.0.0 b.0.1 own.0 own.1 suit.0 suit.1))

  null_fine : (e : Element) (f : Filter) → null_of of_type e ≡ Ok f → IsOne f
  unfolding null_of null_fault
  null_fine e f h =
      let none = bind_ok (only_case e) _ f h in
      let a = bind_ok (first_in e (out-Element e).children) _ f none.2 in
      let is = bind_ok (named (codes "ValueReference") a.0.0) _ f a.2 in
      let p = bind_ok (property_at of_type a.0.0) _ f is.2 in
      let end = bind_ok (no_more a.0.1) _ f p.2 in
      subst IsOne (ok_is FilterDocFault (IsNull p.0.0) f end.2)
      (ap (verdicts of_type) (sym (rolls-IsNull p.0.0)) ∙ fold-roll-Filter (List Verdict) (verdicts_step of_type) (Filter-F.IsNull p.0.0) ∙ rw (at_kind of_type a.0.0 p.0 p.1) refl)

  -- ---- patterns

  like_fine : (f : Filter) → IsLike schema kind f → IsOne f
  unfolding like_fault wanted
  like_fine f l =
      subst IsOne (sym l.is) (ap (verdicts of_type) (sym (rolls-Like l.property l.parts)) ∙ fold-roll-Filter (List Verdict) (verdicts_step of_type) (Filter-F.Like l.property l.parts)
      ∙ rw (at_kind of_type l.named_by (l.property, l.of_kind) l.found, l.words) refl)

  -- ---- geometries

  shape_fine : (e : Element) (i : ℕ) → shape_at of_type e ≡ Ok i → shape_fault of_type i ≡ Ok tt
  unfolding shape_fault wanted
  shape_fine e i h = let k = shape_is of_type e i h in rw (k.1, k.2) refl

  box_verdict : (property : Option ℕ) (area : Bounds) → box_fault of_type property ≡ Ok tt → IsOne (InBox property area)
  box_verdict property area h =
      ap (verdicts of_type) (sym (rolls-InBox property area)) ∙ fold-roll-Filter (List Verdict) (verdicts_step of_type) (Filter-F.InBox property area) ∙ ap (λ v. v ∷ []) h

  -- a box that is read with a property, or with none
  within : (e : Element) (es : List Element) (property : Option ℕ) (f : Filter) → box_fault of_type property ≡ Ok tt → (envelope_alone schema.srs e es >>= λ area. Ok (InBox property area)) ≡ Ok f → IsOne f
  within e es property f fine h =
      let area = bind_ok (envelope_alone schema.srs e es) _ f h in
      subst IsOne (ok_is FilterDocFault (InBox property area.0) f area.2) (box_verdict property area.0 fine)

  box_fine : (e : Element) (f : Filter) → box_of schema.srs of_type e ≡ Ok f → IsOne f
  unfolding box_of
  box_fine e f h =
      let none = bind_ok (no_others [] e) _ f h in
      let a = bind_ok (first_in e (out-Element e).children) _ f none.2 in
      elim (chosen (is_fes (codes "ValueReference") a.0.0) _ _ (Ok f) a.2) [
        | inl g ↦ let i = bind_ok (shape_at of_type a.0.0) _ f g.1 in within e a.0.1 (Some i.0) f (shape_fine a.0.0 i.0 i.1) i.2
        | inr g ↦ within e (out-Element e).children None f refl g.1
      ]

  operands_fine : (e : Element) (o : ℕ × Geometry) → operands_of schema.srs of_type e ≡ Ok o → shape_fault of_type o.0 ≡ Ok tt
  unfolding operands_of
  operands_fine e o h =
      let none = bind_ok (no_others [] e) _ o h in
      let a = bind_ok (first_in e (out-Element e).children) _ o none.2 in
      let is = bind_ok (named (codes "ValueReference") a.0.0) _ o a.2 in
      let i = bind_ok (shape_at of_type a.0.0) _ o is.2 in
      let b = bind_ok (first_in e a.0.1) _ o i.2 in
      let g = bind_ok (drawn (geometry_of schema.srs b.0.0)) _ o b.2 in
      let end = bind_ok (no_more b.0.1) _ o g.2 in
      subst (λ (o : ℕ × Geometry). shape_fault of_type o.0 ≡ Ok tt) (ok_is FilterDocFault (i.0, g.0) o end.2) (shape_fine a.0.0 i.0 i.1)

  meets_fine : (e : Element) (f : Filter) → (operands_of schema.srs of_type e >>= λ o. Ok (Meets o.0 o.1)) ≡ Ok f → IsOne f
  meets_fine e f h =
      let o = bind_ok (operands_of schema.srs of_type e) _ f h in
      subst IsOne (ok_is FilterDocFault (Meets o.0.0 o.0.1) f o.2)
      (ap (verdicts of_type) (sym (rolls-Meets o.0.0 o.0.1)) ∙ fold-roll-Filter (List Verdict) (verdicts_step of_type) (Filter-F.Meets o.0.0 o.0.1) ∙ ap (λ v. v ∷ []) (operands_fine e o.0 o.1))

  apart_fine : (e : Element) (f : Filter) → (operands_of schema.srs of_type e >>= λ o. Ok (Apart o.0 o.1)) ≡ Ok f → IsOne f
  apart_fine e f h =
      let o = bind_ok (operands_of schema.srs of_type e) _ f h in
      subst IsOne (ok_is FilterDocFault (Apart o.0.0 o.0.1) f o.2)
      (ap (verdicts of_type) (sym (rolls-Apart o.0.0 o.0.1)) ∙ fold-roll-Filter (List Verdict) (verdicts_step of_type) (Filter-F.Apart o.0.0 o.0.1) ∙ ap (λ v. v ∷ []) (operands_fine e o.0 o.1))

  -- ---- identifiers

  pub ids_fine : (ids : List IdRef) → IsOne (Ids ids)
  ids_fine ids = ap (verdicts of_type) (sym (rolls-Ids ids)) ∙ fold-roll-Filter (List Verdict) (verdicts_step of_type) (Filter-F.Ids ids)

  id_fine : (e : Element) (f : Filter) → only_id parameters schema e ≡ Ok f → IsOne f
  id_fine e f h =
      let id = bind_ok (id_at parameters schema e) _ f h in
      subst IsOne (ok_is FilterDocFault (Ids (id.0 ∷ [])) f id.2) (ids_fine (id.0 ∷ []))

  -- ---- operators in which none stands

  pub predicate_fine : (p : Predicate) (e : Element) (f : Filter) → predicate_of parameters schema kind e p ≡ Ok f → IsOne f
  unfolding predicate_of
  predicate_fine (Test.Compare by) e f h = compare_fine by e f h
  predicate_fine Test.Like e f h = like_fine f (like_is schema kind e f h)
  predicate_fine Test.Null e f h = null_fine e f h
  predicate_fine Test.Between e f h = between_fine e f h
  predicate_fine Test.Bbox e f h = box_fine e f h
  predicate_fine Test.Intersects e f h = meets_fine e f h
  predicate_fine Test.Disjoint e f h = apart_fine e f h
  predicate_fine Test.ResourceId e f h = id_fine e f h
