-- The element of an operator in which none stands, by what it was read from: it stands in a canonical text, and is no larger.
use Rattle.std.proofs.Common.{◌≡◌, ◌⊎◌, ℕ, pred, ◌+◌, ◌<◌, ◌≤◌, Bool, true, false, List, [], ◌∷◌, Option, Some, None, Result, Ok, Err, refl, sym, ap, subst, ◌∙◌, inl, inr, arith}
use Rattle.std.specs.Prelude.{codes, All}
use Rattle.std.specs.List.{flat_map}
use Rattle.std.specs.Char.{IsScalar}
use Rattle.wfs_ends.specs.Read.{◌>>=◌}
use Rattle.wfs_ends.proofs.Turns.{bind_ok, chosen, ok_is}
use Rattle.doc_tree.specs.declared.tree.Attribute.{Attribute}
use Rattle.doc_tree.specs.declared.tree.Element.{Element, out-Element}
use Rattle.doc_tree.specs.declared.tree.Prefixes.{Prefixes}
use Rattle.doc_read.specs.Scope.{has_twins}
use Rattle.doc_read.specs.Grammar.{IsName}
use Rattle.doc_laws.specs.RoundTrip.{ArePrefixes, is_covered}
use Rattle.doc_laws.proofs.Facts.{Meant}
use Rattle.doc_laws.proofs.Sizes.{no_text, text_meant, visible_meant, Fits, FitAll, parts, Split, split}
use Rattle.doc_laws.proofs.Canonical.{Canon, CanonContent}
use Rattle.doc_laws.proofs.Nodes.{IsTag, bare, standing_node, nothing, beside, alone}
use Rattle.geom_core.specs.Plane.{Bounds}
use Rattle.geom_core.specs.declared.geometry.Geometry.{Geometry}
use Rattle.gml_docs.specs.Elements.{geometry_of, envelope_of}
use Rattle.gml_docs.specs.Written.{gml_name, plain_name}
use Rattle.geom_core.specs.Valid.{IsGeometry}
use Rattle.feature_values.specs.declared.schema.ValueKind.{ValueKind}
use Rattle.feature_values.specs.declared.schema.FeatureType.{FeatureType}
use Rattle.feature_values.specs.declared.schema.Schema.{Schema}
use Rattle.feature_schema.specs.Rules.{KeepsRules}
use Rattle.fes_filter.specs.Check.{type_in, is_same, is_words}
use Rattle.fes_filter.specs.declared.expr.Expr.{Expr}
use Rattle.fes_filter.specs.declared.expr.Expr.TheVariants.{Property, Literal, Parameter}
use Rattle.fes_filter.specs.declared.expr.By.{By}
use Rattle.fes_filter.specs.declared.expr.By.TheVariants.{Less}
use Rattle.fes_filter.specs.declared.ids.IdRef.{IdRef}
use Rattle.fes_filter.specs.declared.ids.IdRef.TheVariants as Id
use Rattle.fes_filter.specs.declared.pattern.LikePart.{LikePart}
use Rattle.fes_filter.specs.declared.filter.Filter.{Filter}
use Rattle.fes_filter.specs.declared.filter.Filter.TheVariants.{Compare, Like, IsNull, Between, InBox}
use Rattle.fes_docs.specs.declared.fault.FilterDocFault.{FilterDocFault}
use Rattle.fes_docs.specs.Names.{is_fes, text_of, named, no_more, no_others, first_in, plain}
use Rattle.fes_docs.specs.Sides.{Sides, property_at, comparable_at, suited, literal_as, literal_at, beside as beside_property, right_of, left_of, sides_from, sides_of, fold_of, action_of, only_matches, folded, compare_of, bound_at, bounds_of, only_case, between_of, null_of, case_of}
use Rattle.fes_docs.specs.Like.{marks_of, only_marks, pattern_of, pattern_behind, like_of}
use Rattle.fes_docs.specs.Spatial.{drawn, shape_at, envelope_alone, box_of, operands_of}
use Rattle.fes_docs.specs.Written.{element, leaf, parent, attribute, reference, side, comparison_name, case_attributes, compare_tree, mark_attributes, like_tree, bound_tree, between_tree, null_tree, id_text, id_tree, envelope_tree, box_tree, first_name, shape_tree}
use Rattle.fes_docs.specs.RoundTrip.{part_characters}
use Rattle.fes_docs.proofs.Beside.{one_of_two}
use Rattle.fes_docs.proofs.Parts.{fes}
use Rattle.filter_laws.proofs.Schemas.{property_named, id_meant, srs_meant}
use Rattle.filter_laws.proofs.Literals.{AreTexts, IsMeant, place_meant, literal_meant, pattern_allowed, pattern_meant, pattern_scalars}
use Rattle.filter_laws.proofs.Shapes.{geometry_is}
use Rattle.filter_laws.proofs.Geometries.{geometry_stands, envelope_stands}

-- ---- readings that did not fail

pub first_behind : (whole : Element) (es : List Element) (f : Element × List Element) → first_in whole es ≡ Ok f → es ≡ f.0 ∷ f.1
unfolding first_in
first_behind whole [] f h = absurd cc
first_behind whole (e ∷ es) f h = ap (λ (g : Element × List Element). g.0 ∷ g.1) (ok_is FilterDocFault (e, es) f h)

drawn_is : {A : Type 0} (r : Result A _) (x : A) → drawn r ≡ Ok x → r ≡ Ok x
drawn_is (Ok y) x h = ap Ok (ok_is FilterDocFault y x h)
drawn_is (Err fault) x h = absurd cc

-- the elements that stand in one, where the first of them is known
front : (d n : ℕ) (whole : Element) (es : List Element) (f : Element × List Element) → first_in whole es ≡ Ok f → FitAll d n es → Split d n f.0 f.1
front d n whole es f h fit = split d n f.0 f.1 (subst (FitAll d n) (first_behind whole es f h) fit)

module _ (names : Prefixes) (are : ArePrefixes names) (fes_covered : is_covered names (fes []) ≡ true) (gml_covered : is_covered names (gml_name []) ≡ true)
    (listed : List (List ℕ)) (texts : AreTexts listed) (schema : Schema) (keeps : KeepsRules schema) (kind : Option ℕ) where
  abbrev of_type : Option FeatureType
  of_type = type_in schema kind

  abbrev ps : Option (List (List ℕ))
  ps = Some listed

  abbrev pub Stands : ℕ → ℕ → Element → Type 0
  Stands d n e = Canon names false d e n

  abbrev pub StandAll : ℕ → ℕ → List Element → Type 0
  StandAll d n es = CanonContent names false d es n

  -- ---- elements of FES

  pub tag : (local : List ℕ) → IsName local → IsTag names (fes local) []
  tag local is = bare names (fes local) fes_covered is

  pub tree_stands : (d n : ℕ) (local : List ℕ) (xs : List Attribute) (kid : Element) (kids : List Element) → IsTag names (fes local) xs → 0 < d → 0 < n → StandAll (pred d) (pred n) (kid ∷ kids)
      → Stands d n (element local xs (kid ∷ kids) [])
  unfolding element
  tree_stands d n local xs kid kids is deep some c = standing_node names false d n (fes local) xs (kid ∷ kids) [] are is no_text deep some c

  pub parent_stands : (d n : ℕ) (local : List ℕ) (kid : Element) (kids : List Element) → IsName local → 0 < d → 0 < n → StandAll (pred d) (pred n) (kid ∷ kids) → Stands d n (parent local (kid ∷ kids))
  unfolding parent
  parent_stands d n local kid kids is deep some c = tree_stands d n local [] kid kids (tag local is) deep some c

  -- any number of elements in it
  pub group_stands : (is_root : Bool) (d n : ℕ) (local : List ℕ) (kids : List Element) → IsName local → 0 < d → 0 < n → StandAll (pred d) (pred n) kids → Canon names is_root d (parent local kids) n
  unfolding parent element
  group_stands is_root d n local [] is deep some c = standing_node names is_root d n (fes local) [] [] [] are (tag local is) no_text deep some c
  group_stands is_root d n local (kid ∷ kids) is deep some c = standing_node names is_root d n (fes local) [] (kid ∷ kids) [] are (tag local is) no_text deep some c

  pub leaf_stands : (d n : ℕ) (local text : List ℕ) → IsName local → Meant text → 0 < d → 0 < n → Stands d n (leaf local text)
  unfolding leaf element
  leaf_stands d n local text is meant deep some = standing_node names false d n (fes local) [] [] text are (tag local is) meant deep some (nothing names false (pred d) (pred n))

  pub reference_stands : (d n : ℕ) (property : ℕ) → 0 < d → 0 < n → Stands d n (reference schema kind property)
  unfolding reference
  reference_stands d n property deep some = leaf_stands d n (codes "ValueReference") _ (record { first = refl; each = refl }) (property_named schema keeps kind property) deep some

  side_stands : (d n : ℕ) (x : Expr) → IsMeant listed x → 0 < d → 0 < n → Stands d n (side ps schema kind x)
  side_stands d n (Property property) meant deep some = reference_stands d n property deep some
  side_stands d n (Literal value) meant deep some = leaf_stands d n (codes "Literal") _ (record { first = refl; each = refl }) meant deep some
  side_stands d n (Parameter place) meant deep some = leaf_stands d n (codes "Literal") _ (record { first = refl; each = refl }) meant deep some

  -- two elements, and three, each of one element alone
  two : (d n : ℕ) (a b : Element) → 2 ≤ n → Stands d 1 a → Stands d 1 b → StandAll d n (a ∷ b ∷ [])
  two d n a b many one other = beside names false d 1 1 n a (b ∷ []) many one (alone names false d 1 b other)

  -- ---- the sides of a comparison

  text_at : (d n : ℕ) (e : Element) → Fits d n e → Meant (text_of e)
  text_at d n e fit = text_meant (text_of e) (parts d n e fit).text

  beside_meant : (d n : ℕ) (k : ValueKind) (name : List ℕ) (e : Element) (x : Expr) → beside_property ps of_type k name e ≡ Ok x → Fits d n e → IsMeant listed x
  unfolding beside_property
  beside_meant d n k name e x h fit = by (one_of_two (is_fes (codes "ValueReference") e) (is_fes (codes "Literal") e) _ _ _ x h)
    where
      by : ((property_at of_type e >>= λ p. suited (is_same k p.1) e >>= λ _. Ok (Property p.0)) ≡ Ok x) ⊎ ((literal_at ps e >>= λ place. literal_as k name place (text_of e)) ≡ Ok x) → IsMeant listed x
      by (inl h) =
          let p = bind_ok (property_at of_type e) _ x h in
          let s = bind_ok (suited (is_same k p.0.1) e) _ x p.2 in
          subst (IsMeant listed) (ok_is FilterDocFault (Property p.0.0) x s.2) no_text
      by (inr h) =
          let at = bind_ok (literal_at ps e) _ x h in
          literal_meant listed k name at.0 (text_of e) x texts at.2 (text_at d n e fit)

  -- two sides, where two elements stand
  record AreSides (d n : ℕ) (s : Sides) : Type 0 where
    left : IsMeant listed s.0
    right : IsMeant listed s.1
    deep : 0 < d
    many : 2 ≤ n

  right_are : (d n m : ℕ) (whole e : Element) (es : List Element) (p : ℕ × ValueKind) (s : Sides) → right_of ps of_type whole e p es ≡ Ok s → 0 < n → FitAll d m es → AreSides d (n + m) s
  unfolding right_of
  right_are d n m whole e es p s h some fit =
      let f = bind_ok (first_in whole es) _ s h in
      let right = bind_ok (beside_property ps of_type p.1 (text_of e) f.0.0) _ s f.2 in
      let end = bind_ok (no_more f.0.1) _ s right.2 in
      let k = front d m whole es f.0 f.1 fit in
      subst (AreSides d (n + m)) (ok_is FilterDocFault (Property p.0, right.0, p.1) s end.2)
      (record { left = no_text; right = beside_meant d k.here p.1 (text_of e) f.0.0 right.0 right.1 k.one; deep = k.deep; many = omega (arith, some, k.some, k.total) })

  left_are : (d n m : ℕ) (by : By) (whole e : Element) (es : List Element) (place : Option ℕ) (s : Sides) → left_of of_type by whole e place es ≡ Ok s → Meant (text_of e) → 0 < n → FitAll d m es → AreSides d (n + m) s
  unfolding left_of
  left_are d n m by whole e es place s h meant some fit =
      let f = bind_ok (first_in whole es) _ s h in
      let name = bind_ok (named (codes "ValueReference") f.0.0) _ s f.2 in
      let p = bind_ok (comparable_at of_type by f.0.0) _ s name.2 in
      let left = bind_ok (literal_as p.0.1 (text_of f.0.0) place (text_of e)) _ s p.2 in
      let end = bind_ok (no_more f.0.1) _ s left.2 in
      let k = front d m whole es f.0 f.1 fit in
      subst (AreSides d (n + m)) (ok_is FilterDocFault (left.0, Property p.0.0, p.0.1) s end.2)
      (record { left = literal_meant listed p.0.1 (text_of f.0.0) place (text_of e) left.0 texts left.1 meant; right = no_text; deep = k.deep; many = omega (arith, some, k.some, k.total) })

  first_are : (d n m : ℕ) (by : By) (whole e : Element) (rest : List Element) (s : Sides)
      → ((comparable_at of_type by e >>= λ p. right_of ps of_type whole e p rest) ≡ Ok s) ⊎ ((literal_at ps e >>= λ place. left_of of_type by whole e place rest) ≡ Ok s) → Fits d n e → 0 < n → FitAll d m rest → AreSides d (n + m) s
  first_are d n m by whole e rest s (inl h) fit some all =
      let p = bind_ok (comparable_at of_type by e) _ s h in
      right_are d n m whole e rest p.0 s p.2 some all
  first_are d n m by whole e rest s (inr h) fit some all =
      let place = bind_ok (literal_at ps e) _ s h in
      left_are d n m by whole e rest place.0 s place.2 (text_at d n e fit) some all

  sides_are : (d n : ℕ) (by : By) (e : Element) (s : Sides) → sides_of ps of_type by e ≡ Ok s → FitAll d n (out-Element e).children → AreSides d n s
  unfolding sides_of sides_from
  sides_are d n by e s h fit =
      let f = bind_ok (first_in e (out-Element e).children) _ s h in
      let k = front d n e (out-Element e).children f.0 f.1 fit in
      let are = first_are d k.here k.there by e f.0.0 f.0.1 s (one_of_two (is_fes (codes "ValueReference") f.0.0) (is_fes (codes "Literal") f.0.0) _ _ _ s f.2) k.one k.some k.rest in
      record { left = are.left; right = are.right; deep = are.deep; many = omega (arith, are.many, k.total) }

  -- ---- comparisons

  comparison_is : (by : By) → IsName (comparison_name by)
  comparison_is By.Equal = record { first = refl; each = refl }
  comparison_is By.NotEqual = record { first = refl; each = refl }
  comparison_is By.Less = record { first = refl; each = refl }
  comparison_is By.Greater = record { first = refl; each = refl }
  comparison_is By.LessEqual = record { first = refl; each = refl }
  comparison_is By.GreaterEqual = record { first = refl; each = refl }

  case_tag : (local : List ℕ) (fold : Bool) → IsName local → IsTag names (fes local) (case_attributes fold)
  unfolding attribute plain_name has_twins
  case_tag local true is = record {
    covered = fes_covered;
    local = is;
    attributes = refl;
    good = (record { local = record { first = refl; each = refl }; no_xmlns = λ e. refl; value = visible_meant (codes "false") refl }, tt);
    once = refl;
    few = omega arith;
  }
  case_tag local false is = tag local is

  pub compare_stands : (d n : ℕ) (by : By) (e : Element) (f : Filter) → compare_of ps of_type by e ≡ Ok f → Fits d n e
      → (x : Expr) × (y : Expr) × (fold : Bool) × (f ≡ Compare by x y fold) × Stands d n (compare_tree ps schema kind by x y fold)
  unfolding compare_of compare_tree
  compare_stands d n by e f h fit =
      let fold = bind_ok (fold_of by e) _ f h in
      let action = bind_ok (action_of e) _ f fold.2 in
      let only = bind_ok (only_matches e) _ f action.2 in
      let s = bind_ok (sides_of ps of_type by e) _ f only.2 in
      let end = bind_ok (folded fold.0 s.0.2) _ f s.2 in
      let p = parts d n e fit in
      let a = sides_are (pred d) (pred n) by e s.0 s.1 p.kids in (
        s.0.0,
        s.0.1,
        fold.0,
        sym (ok_is FilterDocFault (Compare by s.0.0 s.0.1 fold.0) f end.2),
        tree_stands d n (comparison_name by) (case_attributes fold.0) _ _ (case_tag (comparison_name by) fold.0 (comparison_is by)) p.deep p.many
            (two (pred d) (pred n) _ _ a.many (side_stands (pred d) 1 s.0.0 a.left a.deep (omega arith)) (side_stands (pred d) 1 s.0.1 a.right a.deep (omega arith))),
      )

  -- ---- patterns

  mark_tag : (local : List ℕ) → IsName local → IsTag names (fes local) mark_attributes
  unfolding attribute plain_name has_twins
  mark_tag local is = record {
    covered = fes_covered;
    local = is;
    attributes = refl;
    good = (
      record { local = record { first = refl; each = refl }; no_xmlns = λ e. refl; value = visible_meant (codes "*") refl },
      (
        record { local = record { first = refl; each = refl }; no_xmlns = λ e. refl; value = visible_meant (codes ".") refl },
        (record { local = record { first = refl; each = refl }; no_xmlns = λ e. refl; value = visible_meant (codes "!") refl }, tt),
      ),
    );
    once = refl;
    few = omega arith;
  }

  pub record IsLike (d n : ℕ) (f : Filter) : Type 0 where
    pub property : ℕ
    pub pattern : List LikePart
    pub is : f ≡ Like property pattern
    pub scalars : All IsScalar (flat_map part_characters pattern)
    pub stands : Stands d n (like_tree schema kind property pattern)

  pub like_stands : (d n : ℕ) (e : Element) (f : Filter) → like_of of_type e ≡ Ok f → Fits d n e → IsLike d n f
  unfolding like_of pattern_behind like_tree
  like_stands d n e f h fit =
      let cased = bind_ok (case_of e) _ f h in
      let marks = bind_ok (marks_of e) _ f cased.2 in
      let only = bind_ok (only_marks e) _ f marks.2 in
      let a = bind_ok (first_in e (out-Element e).children) _ f only.2 in
      let is = bind_ok (named (codes "ValueReference") a.0.0) _ f a.2 in
      let p = bind_ok (property_at of_type a.0.0) _ f is.2 in
      let suit = bind_ok (suited (is_words p.0.1) a.0.0) _ f p.2 in
      let b = bind_ok (first_in e a.0.1) _ f suit.2 in
      let literal = bind_ok (named (codes "Literal") b.0.0) _ f b.2 in
      let none = bind_ok (plain b.0.0) _ f literal.2 in
      let pattern = bind_ok (pattern_of marks.0 (text_of b.0.0)) _ f none.2 in
      let end = bind_ok (no_more b.0.1) _ f pattern.2 in
      let q = parts d n e fit in
      let k = front (pred d) (pred n) e (out-Element e).children a.0 a.1 q.kids in
      let l = front (pred d) k.there e a.0.1 b.0 b.1 k.rest in
      let allowed = pattern_allowed marks.0 (text_of b.0.0) pattern.0 pattern.1 (text_at (pred d) l.here b.0.0 l.one) in
      record {
        property = p.0.0;
        pattern = pattern.0;
        is = sym (ok_is FilterDocFault (Like p.0.0 pattern.0) f end.2);
        scalars = pattern_scalars pattern.0 allowed;
        stands = tree_stands d n (codes "PropertyIsLike") mark_attributes _ _ (mark_tag (codes "PropertyIsLike") (record { first = refl; each = refl })) q.deep q.many
            (two (pred d) (pred n) _ _ (omega (arith, k.total, k.some, l.total, l.some)) (reference_stands (pred d) 1 p.0.0 k.deep (omega arith))
            (leaf_stands (pred d) 1 (codes "Literal") _ (record { first = refl; each = refl }) (pattern_meant pattern.0 allowed) k.deep (omega arith)));
      }

  -- ---- nulls and ranges

  pub null_stands : (d n : ℕ) (e : Element) (f : Filter) → null_of of_type e ≡ Ok f → Fits d n e → (i : ℕ) × (f ≡ IsNull i) × Stands d n (null_tree schema kind i)
  unfolding null_of null_tree
  null_stands d n e f h fit =
      let none = bind_ok (only_case e) _ f h in
      let a = bind_ok (first_in e (out-Element e).children) _ f none.2 in
      let is = bind_ok (named (codes "ValueReference") a.0.0) _ f a.2 in
      let p = bind_ok (property_at of_type a.0.0) _ f is.2 in
      let end = bind_ok (no_more a.0.1) _ f p.2 in
      let q = parts d n e fit in
      let k = front (pred d) (pred n) e (out-Element e).children a.0 a.1 q.kids in (
        p.0.0,
        sym (ok_is FilterDocFault (IsNull p.0.0) f end.2),
        parent_stands d n (codes "PropertyIsNull") _ [] (record { first = refl; each = refl }) q.deep q.many
            (alone names false (pred d) (pred n) _ (reference_stands (pred d) (pred n) p.0.0 k.deep (omega (arith, k.some, k.total)))),
      )

  bound_stands : (d n : ℕ) (local : List ℕ) (k : ValueKind) (name : List ℕ) (e : Element) (x : Expr) → IsName local → bound_at local ps of_type k name e ≡ Ok x → Fits d n e → Stands d n (bound_tree local ps schema kind x)
  unfolding bound_at bound_tree
  bound_stands d n local k name e x is h fit =
      let name_is = bind_ok (named local e) _ x h in
      let none = bind_ok (no_others [] e) _ x name_is.2 in
      let f = bind_ok (first_in e (out-Element e).children) _ x none.2 in
      let read = bind_ok (beside_property ps of_type k name f.0.0) _ x f.2 in
      let end = bind_ok (no_more f.0.1) _ x read.2 in
      let q = parts d n e fit in
      let s = front (pred d) (pred n) e (out-Element e).children f.0 f.1 q.kids in
      let meant = beside_meant (pred d) s.here k name f.0.0 x (read.1 ∙ end.2) s.one in
      parent_stands d n local _ [] is q.deep q.many (alone names false (pred d) (pred n) _ (side_stands (pred d) (pred n) x meant s.deep (omega (arith, s.some, s.total))))

  bounds_stand : (d n : ℕ) (k : ValueKind) (name : List ℕ) (whole : Element) (es : List Element) (b : Expr × Expr) → bounds_of ps of_type k name whole es ≡ Ok b → FitAll d n es
      → StandAll d n (bound_tree (codes "LowerBoundary") ps schema kind b.0 ∷ bound_tree (codes "UpperBoundary") ps schema kind b.1 ∷ [])
  unfolding bounds_of
  bounds_stand d n k name whole es b h fit =
      let l = bind_ok (first_in whole es) _ b h in
      let low = bind_ok (bound_at (codes "LowerBoundary") ps of_type k name l.0.0) _ b l.2 in
      let u = bind_ok (first_in whole l.0.1) _ b low.2 in
      let high = bind_ok (bound_at (codes "UpperBoundary") ps of_type k name u.0.0) _ b u.2 in
      let end = bind_ok (no_more u.0.1) _ b high.2 in
      let s = front d n whole es l.0 l.1 fit in
      let t = front d s.there whole l.0.1 u.0 u.1 s.rest in
      subst (λ (b : Expr × Expr). StandAll d n (bound_tree (codes "LowerBoundary") ps schema kind b.0 ∷ bound_tree (codes "UpperBoundary") ps schema kind b.1 ∷ [])) (ok_is FilterDocFault (low.0, high.0) b end.2)
      (beside names false d s.here s.there n _ _ s.total (bound_stands d s.here (codes "LowerBoundary") k name l.0.0 low.0 (record { first = refl; each = refl }) low.1 s.one)
      (beside names false d t.here t.there s.there _ [] t.total (bound_stands d t.here (codes "UpperBoundary") k name u.0.0 high.0 (record { first = refl; each = refl }) high.1 t.one) (nothing names false d t.there)))

  pub between_stands : (d n : ℕ) (e : Element) (f : Filter) → between_of ps of_type e ≡ Ok f → Fits d n e
      → (i : ℕ) × (low : Expr) × (high : Expr) × (f ≡ Between i low high) × Stands d n (between_tree ps schema kind i low high)
  unfolding between_of between_tree
  between_stands d n e f h fit =
      let none = bind_ok (only_case e) _ f h in
      let a = bind_ok (first_in e (out-Element e).children) _ f none.2 in
      let is = bind_ok (named (codes "ValueReference") a.0.0) _ f a.2 in
      let p = bind_ok (comparable_at of_type Less a.0.0) _ f is.2 in
      let b = bind_ok (bounds_of ps of_type p.0.1 (text_of a.0.0) e a.0.1) _ f p.2 in
      let q = parts d n e fit in
      let k = front (pred d) (pred n) e (out-Element e).children a.0 a.1 q.kids in (
        p.0.0,
        b.0.0,
        b.0.1,
        sym (ok_is FilterDocFault (Between p.0.0 b.0.0 b.0.1) f b.2),
        parent_stands d n (codes "PropertyIsBetween") _ _ (record { first = refl; each = refl }) q.deep q.many
            (beside names false (pred d) k.here k.there (pred n) _ _ k.total (reference_stands (pred d) k.here p.0.0 k.deep k.some) (bounds_stand (pred d) k.there p.0.1 (text_of a.0.0) e a.0.1 b.0 b.1 k.rest)),
      )

  -- ---- geometries

  -- an Envelope, where it stands alone
  envelope_alone_stands : (d n : ℕ) (whole : Element) (es : List Element) (area : Bounds) → envelope_alone schema.srs whole es ≡ Ok area → FitAll d n es → StandAll d n (envelope_tree schema.srs area ∷ [])
  unfolding envelope_alone
  envelope_alone_stands d n whole es area h fit =
      let f = bind_ok (first_in whole es) _ area h in
      let read = bind_ok (drawn (envelope_of schema.srs f.0.0)) _ area f.2 in
      let end = bind_ok (no_more f.0.1) _ area read.2 in
      let k = front d n whole es f.0 f.1 fit in
      let is = drawn_is (envelope_of schema.srs f.0.0) area (read.1 ∙ end.2) in
      beside names false d k.here k.there n _ [] k.total (envelope_stands names are gml_covered schema.srs d k.here f.0.0 area is (srs_meant schema keeps) k.one) (nothing names false d k.there)

  pub record IsBox (d n : ℕ) (f : Filter) : Type 0 where
    pub property : Option ℕ
    pub area : Bounds
    pub is : f ≡ InBox property area
    pub stands : Stands d n (box_tree schema kind property area)

  pub box_stands : (d n : ℕ) (e : Element) (f : Filter) → box_of schema.srs of_type e ≡ Ok f → Fits d n e → IsBox d n f
  unfolding box_of box_tree
  box_stands d n e f h fit =
      let none = bind_ok (no_others [] e) _ f h in
      let a = bind_ok (first_in e (out-Element e).children) _ f none.2 in
      let q = parts d n e fit in
      let k = front (pred d) (pred n) e (out-Element e).children a.0 a.1 q.kids in
      elim (chosen (is_fes (codes "ValueReference") a.0.0) _ _ (Ok f) a.2) [
        | inl g ↦
            let i = bind_ok (shape_at of_type a.0.0) _ f g.1 in
            let area = bind_ok (envelope_alone schema.srs e a.0.1) _ f i.2 in
            record {
              property = Some i.0;
              area = area.0;
              is = sym (ok_is FilterDocFault (InBox (Some i.0) area.0) f area.2);
              stands = parent_stands d n (codes "BBOX") _ _ (record { first = refl; each = refl }) q.deep q.many
                  (beside names false (pred d) k.here k.there (pred n) _ _ k.total (reference_stands (pred d) k.here i.0 k.deep k.some) (envelope_alone_stands (pred d) k.there e a.0.1 area.0 area.1 k.rest));
            }
        | inr g ↦
            let area = bind_ok (envelope_alone schema.srs e (out-Element e).children) _ f g.1 in
            record {
              property = None;
              area = area.0;
              is = sym (ok_is FilterDocFault (InBox None area.0) f area.2);
              stands = parent_stands d n (codes "BBOX") _ _ (record { first = refl; each = refl }) q.deep q.many (envelope_alone_stands (pred d) (pred n) e (out-Element e).children area.0 area.1 q.kids);
            }
      ]

  pub record AreOperands (d n : ℕ) (local : List ℕ) (o : ℕ × Geometry) : Type 0 where
    pub shape : IsGeometry o.1
    pub stands : Stands d n (shape_tree schema kind local o.0 o.1)

  pub operands_stand : (d n : ℕ) (local : List ℕ) (e : Element) (o : ℕ × Geometry) → IsName local → operands_of schema.srs of_type e ≡ Ok o → Fits d n e → AreOperands d n local o
  unfolding operands_of shape_tree
  operands_stand d n local e o is h fit =
      let none = bind_ok (no_others [] e) _ o h in
      let a = bind_ok (first_in e (out-Element e).children) _ o none.2 in
      let name = bind_ok (named (codes "ValueReference") a.0.0) _ o a.2 in
      let i = bind_ok (shape_at of_type a.0.0) _ o name.2 in
      let b = bind_ok (first_in e a.0.1) _ o i.2 in
      let g = bind_ok (drawn (geometry_of schema.srs b.0.0)) _ o b.2 in
      let end = bind_ok (no_more b.0.1) _ o g.2 in
      let read = drawn_is (geometry_of schema.srs b.0.0) g.0 g.1 in
      let q = parts d n e fit in
      let k = front (pred d) (pred n) e (out-Element e).children a.0 a.1 q.kids in
      let l = front (pred d) k.there e a.0.1 b.0 b.1 k.rest in
      subst (AreOperands d n local) (ok_is FilterDocFault (i.0, g.0) o end.2) (record {
        shape = geometry_is schema.srs b.0.0 g.0 read;
        stands = parent_stands d n local _ _ is q.deep q.many
            (beside names false (pred d) k.here k.there (pred n) _ _ k.total (reference_stands (pred d) k.here i.0 k.deep k.some)
            (beside names false (pred d) l.here l.there k.there _ [] l.total
            (geometry_stands names are gml_covered schema.srs (codes "g") (first_name schema.srs) (visible_meant (codes "g") refl) (srs_meant schema keeps) (pred d) l.here b.0.0 g.0 read l.one) (nothing names false (pred d) l.there)));
      })

  -- ---- identifiers

  named_meant : (id : IdRef) → Meant (id_text ps schema id)
  named_meant (Id.Known id) = id_meant schema keeps id.kind id.number
  named_meant Id.Nobody = no_text
  named_meant (Id.Parameter place) = place_meant listed place texts

  id_tag : (id : IdRef) → IsTag names (fes (codes "ResourceId")) (attribute (codes "rid") (id_text ps schema id) ∷ [])
  unfolding attribute plain_name has_twins
  id_tag id = record {
    covered = fes_covered;
    local = record { first = refl; each = refl };
    attributes = refl;
    good = (record { local = record { first = refl; each = refl }; no_xmlns = λ e. refl; value = named_meant id }, tt);
    once = refl;
    few = omega arith;
  }

  pub id_stands : (d n : ℕ) (id : IdRef) → 0 < d → 0 < n → Stands d n (id_tree ps schema id)
  unfolding id_tree element
  id_stands d n id deep some = standing_node names false d n (fes (codes "ResourceId")) _ [] [] are (id_tag id) no_text deep some (nothing names false (pred d) (pred n))
