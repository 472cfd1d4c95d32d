-- What was read as a property, as a side of a comparison or as a bound is of the kind that is asked for.
use Rattle.std.proofs.Common.{◌≡◌, inl, inr, ℕ, Bool, true, List, Option, Some, None, Result, Ok, Err, refl, sym, ap, subst, ◌∙◌}
use Rattle.std.specs.Prelude.{ℤ, codes, slice_get}
use Rattle.wfs_ends.specs.Read.{◌>>=◌}
use Rattle.wfs_ends.proofs.Turns.{bind_ok, ok_is}
use Rattle.doc_tree.specs.declared.tree.Element.{Element}
use Rattle.feature_values.specs.Fits.{is_of_kind}
use Rattle.feature_values.specs.Ids.{property_named, without_prefix}
use Rattle.feature_values.specs.Reads.{a_whole, a_truth, read_as, whole_of, truth_of, trimmed}
use Rattle.feature_values.specs.declared.schema.ValueKind.{ValueKind}
use Rattle.feature_values.specs.declared.schema.ValueKind.TheVariants as Kind
use Rattle.feature_values.specs.declared.schema.FeatureType.{FeatureType}
use Rattle.feature_values.specs.declared.value.Value.{Value}
use Rattle.feature_values.specs.declared.value.Value.TheVariants.{Words, Whole, Truth}
use Rattle.feature_values.specs.declared.fault.ValueFault.{ValueFault}
use Rattle.fes_filter.specs.Check.{with_kind, property_in, kind_in, kind_of, is_same, is_shape, is_comparable, known, is_that_kind, is_suited}
use Rattle.fes_filter.specs.declared.expr.Expr.{Expr}
use Rattle.fes_filter.specs.declared.expr.Expr.TheVariants.{Property, Literal, Parameter}
use Rattle.fes_filter.specs.declared.expr.By.{By}
use Rattle.fes_docs.specs.declared.fault.FilterDocFault.{FilterDocFault}
use Rattle.fes_docs.specs.Names.{is_fes, text_of, plain}
use Rattle.fes_docs.specs.Sides.{property_at, suited, comparable_at, or_types, literal_as, literal_at, beside}
use Rattle.fes_docs.specs.Spatial.{shape_at}
use Rattle.fes_docs.proofs.Named.{and_then_some, map_some, unknown_is}
use Rattle.fes_docs.proofs.Beside.{one_of_two, suited_is}

-- ---- properties

kind_is : (of_type : Option FeatureType) (name : List ℕ) (p : ℕ × ValueKind) → property_in of_type name ≡ Some p → kind_of of_type p.0 ≡ Ok p.1
kind_is None name p e = absurd cc
kind_is (Some of_type) name p e =
    let read = and_then_some (with_kind of_type) (property_named of_type (without_prefix name)) p e in
    let q = map_some (λ q. (read.0, q.kind)) (slice_get of_type.properties read.0) p read.2 in
    subst (λ (x : ℕ × ValueKind). kind_of (Some of_type) x.0 ≡ Ok x.1) q.2 (ap kind_in q.1)

-- the property that a ValueReference names is of the kind that is told with it
pub at_kind : (of_type : Option FeatureType) (e : Element) (p : ℕ × ValueKind) → property_at of_type e ≡ Ok p → kind_of of_type p.0 ≡ Ok p.1
unfolding property_at
at_kind of_type e p h =
    let read = bind_ok (plain e) _ p h in
    kind_is of_type (text_of e) p (unknown_is (text_of e) (property_in of_type (text_of e)) p read.2)

pub comparable_is : (of_type : Option FeatureType) (by : By) (e : Element) (p : ℕ × ValueKind) → comparable_at of_type by e ≡ Ok p → (kind_of of_type p.0 ≡ Ok p.1) × (is_comparable by p.1 ≡ true)
unfolding comparable_at
comparable_is of_type by e p h =
    let found = bind_ok _ _ p h in
    let suit = bind_ok _ _ p found.2 in
    let same : found.0 ≡ p = ok_is FilterDocFault found.0 p suit.2 in
    (at_kind of_type e p (found.1 ∙ ap Ok same), ap (λ (q : ℕ × ValueKind). is_comparable by q.1) (sym same) ∙ suited_is _ e suit.0 suit.1)

pub shape_is : (of_type : Option FeatureType) (e : Element) (i : ℕ) → shape_at of_type e ≡ Ok i → (k : ValueKind) × (kind_of of_type i ≡ Ok k) × (is_shape k ≡ true)
unfolding shape_at
shape_is of_type e i h =
    let p = bind_ok _ _ i h in
    let suit = bind_ok _ _ i p.2 in
    let same : p.0.0 ≡ i = ok_is FilterDocFault p.0.0 i suit.2 in
    (p.0.1, ap (kind_of of_type) (sym same) ∙ at_kind of_type e p.0 p.1, suited_is _ e suit.0 suit.1)

-- ---- literals

whole_kind : (r : Option ℤ) (v : Value) → a_whole r ≡ Ok v → is_of_kind v Kind.Whole ≡ true
unfolding is_of_kind
whole_kind None v e = absurd cc
whole_kind (Some n) v e = subst (λ (x : Value). is_of_kind x Kind.Whole ≡ true) (ok_is ValueFault (Whole n) v e) refl

truth_kind : (r : Option Bool) (v : Value) → a_truth r ≡ Ok v → is_of_kind v Kind.Truth ≡ true
unfolding is_of_kind
truth_kind None v e = absurd cc
truth_kind (Some b) v e = subst (λ (x : Value). is_of_kind x Kind.Truth ≡ true) (ok_is ValueFault (Truth b) v e) refl

-- a text reads as a value of the kind alone
read_kind : (k : ValueKind) (text : List ℕ) (v : Value) → read_as k text ≡ Ok v → is_of_kind v k ≡ true
unfolding read_as is_of_kind
read_kind Kind.Words text v e = subst (λ (x : Value). is_of_kind x Kind.Words ≡ true) (ok_is ValueFault (Words text) v e) refl
read_kind Kind.Whole text v e = whole_kind (whole_of (trimmed text)) v e
read_kind Kind.Truth text v e = truth_kind (truth_of (trimmed text)) v e
read_kind Kind.Point text v e = absurd cc
read_kind Kind.Line text v e = absurd cc
read_kind Kind.Polygon text v e = absurd cc

-- ---- expressions

same_kind : (k : ValueKind) → is_same k k ≡ true
same_kind Kind.Words = refl
same_kind Kind.Whole = refl
same_kind Kind.Truth = refl
same_kind Kind.Point = refl
same_kind Kind.Line = refl
same_kind Kind.Polygon = refl

module _ (of_type : Option FeatureType) where
  -- an expression names no property that the type has not, and is of a kind
  pub record Suits (k : ValueKind) (x : Expr) : Type 0 where
    pub known : known of_type x ≡ Ok tt
    pub suited : is_suited of_type k x ≡ true

  property_suits : (k other : ValueKind) (i : ℕ) → kind_of of_type i ≡ Ok other → is_same k other ≡ true → Suits k (Property i)
  property_suits k other i at same = record { known = rw at refl; suited = ap (is_that_kind k) at ∙ same }

  pub own_suits : (k : ValueKind) (i : ℕ) → kind_of of_type i ≡ Ok k → Suits k (Property i)
  own_suits k i at = property_suits k k i at (same_kind k)

  value_suits : (k : ValueKind) (name : List ℕ) (r : Result Value ValueFault) (x : Expr) → or_types name r ≡ Ok x → ((v : Value) → r ≡ Ok v → is_of_kind v k ≡ true) → Suits k x
  value_suits k name (Ok v) x e of_kind = subst (Suits k) (ok_is FilterDocFault (Literal v) x e) (record { known = refl; suited = of_kind v refl })
  value_suits k name (Err fault) x e of_kind = absurd cc

  pub literal_suits : (k : ValueKind) (name : List ℕ) (place : Option ℕ) (text : List ℕ) (x : Expr) → literal_as k name place text ≡ Ok x → Suits k x
  literal_suits k name (Some place) text x e = subst (Suits k) (ok_is FilterDocFault (Parameter place) x e) (record { known = refl; suited = refl })
  literal_suits k name None text x e = value_suits k name (read_as k text) x e (read_kind k text)

  reference_suits : (k : ValueKind) (e : Element) (x : Expr) → (property_at of_type e >>= λ p. suited (is_same k p.1) e >>= λ _. Ok (Property p.0)) ≡ Ok x → Suits k x
  reference_suits k e x h =
      let p = bind_ok _ _ x h in
      let suit = bind_ok _ _ x p.2 in
      subst (Suits k) (ok_is FilterDocFault (Property p.0.0) x suit.2) (property_suits k p.0.1 p.0.0 (at_kind of_type e p.0 p.1) (suited_is _ e suit.0 suit.1))

  value_beside : (parameters : Option (List (List ℕ))) (k : ValueKind) (name : List ℕ) (e : Element) (x : Expr) → (literal_at parameters e >>= λ place. literal_as k name place (text_of e)) ≡ Ok x → Suits k x
  value_beside parameters k name e x h = let place = bind_ok (literal_at parameters e) _ x h in literal_suits k name place.0 (text_of e) x place.2

  -- what stands beside a property is of the property's kind
  pub beside_suits : (parameters : Option (List (List ℕ))) (k : ValueKind) (name : List ℕ) (e : Element) (x : Expr) → beside parameters of_type k name e ≡ Ok x → Suits k x
  unfolding beside
  beside_suits parameters k name e x h = elim (one_of_two (is_fes (codes "ValueReference") e) (is_fes (codes "Literal") e) _ _ _ x h) [
    | inl h ↦ reference_suits k e x h
    | inr h ↦ value_beside parameters k name e x h
  ]
