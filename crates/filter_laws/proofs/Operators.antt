-- The element of a filter, by what it was read from: it stands in a canonical text, and is no larger.
use Rattle.std.proofs.Common.{◌≡◌, ℕ, pred, ◌<◌, Bool, true, false, List, [], ◌∷◌, ◌++◌, length, map, Option, Some, Result, Ok, refl, sym, ap, subst, ◌∙◌, inl, inr, append_assoc, arith}
use Rattle.std.specs.Prelude.{codes, nat_lt, All}
use Rattle.std.specs.List.{flat_map}
use Rattle.std.specs.Char.{IsScalar}
use Rattle.std.proofs.lemmas.List.{append-nil}
use Rattle.std.proofs.lemmas.List.Concat.{flat_map-cons}
use Rattle.std.proofs.lemmas.List.Elements.{All-nil, All-cons, All-append}
use Rattle.wfs_ends.specs.Read.{◌>>=◌, each}
use Rattle.wfs_ends.proofs.Turns.{bind_ok, if_ok, chosen, ok_is}
use Rattle.doc_tree.specs.declared.tree.Element.{Element, out-Element}
use Rattle.doc_tree.specs.declared.tree.Prefixes.{Prefixes}
use Rattle.doc_read.specs.Grammar.{IsName}
use Rattle.doc_laws.specs.RoundTrip.{ArePrefixes, is_covered}
use Rattle.doc_laws.proofs.Sizes.{Fits, FitAll, parts, split}
use Rattle.doc_laws.proofs.Canonical.{Canon}
use Rattle.doc_laws.proofs.Nodes.{more, nothing, beside, alone}
use Rattle.geom_core.specs.declared.geometry.Geometry.{Geometry}
use Rattle.gml_docs.specs.Written.{gml_name}
use Rattle.geom_core.specs.Valid.{IsGeometry}
use Rattle.feature_values.specs.declared.schema.Schema.{Schema}
use Rattle.feature_schema.specs.Rules.{KeepsRules}
use Rattle.fes_filter.specs.Check.{most_operators}
use Rattle.fes_filter.specs.declared.ids.IdRef.{IdRef}
use Rattle.fes_filter.specs.declared.filter.Filter.{Filter, out-Filter}
use Rattle.fes_filter.specs.declared.filter.Filter.TheVariants.{Both, Either, Not, Compare, Like, IsNull, Between, Ids, InBox, Meets, Apart, rolls-Both, rolls-Either, rolls-Not, rolls-Compare, rolls-Like, rolls-IsNull, rolls-Between, rolls-Ids, rolls-InBox, rolls-Meets, rolls-Apart}
use Rattle.fes_filter.specs.declared.filter.Filter.TheOpen.{Filter-F}
use Rattle.fes_filter.specs.declared.filter.Filter.TheViews.{roll-Filter, out-roll-Filter}
use Rattle.fes_filter.specs.declared.filter.Filter.TheFolds.{fold-roll-Filter}
use Rattle.fes_docs.specs.declared.fault.FilterDocFault.{FilterDocFault}
use Rattle.fes_docs.specs.declared.fault.FilterDocFault.TheVariants.{Shape}
use Rattle.fes_docs.specs.declared.operator.Predicate.{Predicate}
use Rattle.fes_docs.specs.declared.operator.Predicate.TheVariants as Test
use Rattle.fes_docs.specs.declared.operator.Operator.{Operator}
use Rattle.fes_docs.specs.Names.{is_fes, local_of, named, no_others, no_more, first_in}
use Rattle.fes_docs.specs.Operators.{operator_in}
use Rattle.fes_docs.specs.Ids.{id_at, next_id}
use Rattle.fes_docs.specs.Spatial.{operands_of}
use Rattle.fes_docs.specs.Filters.{Reading, counted, predicate_of, next_operator, several, one, operation, operator_by, operator_of, ids_in, content_from, content_of, filter_of}
use Rattle.fes_docs.specs.Written.{parent, compare_tree, like_tree, null_tree, between_tree, box_tree, shape_tree, id_tree, operator_step, operator_tree, content_by, filter_tree}
use Rattle.fes_docs.specs.RoundTrip.{characters_step, characters, shapes_step, shapes, IsFilter}
use Rattle.fes_docs.proofs.Children.{HoldAll, by_children}
use Rattle.fes_docs.proofs.Readings.{operator_is}
use Rattle.fes_docs.proofs.Parts.{enough, through, all_through, AreFilters, fes}
use Rattle.filter_laws.proofs.Literals.{AreTexts}
use Rattle.filter_laws.proofs.Predicates.{first_behind, Stands, StandAll, group_stands, compare_stands, like_stands, null_stands, between_stands, box_stands, operands_stand, id_stands}

-- ---- what each value of a filter is

no_parts : (f : Filter) → characters f ≡ [] → shapes f ≡ [] → IsFilter f
no_parts f cs gs = record { characters = subst (All IsScalar) (sym cs) (All-nil IsScalar); shapes = subst (All IsGeometry) (sym gs) (All-nil IsGeometry) }

one_shape : (f : Filter) (g : Geometry) → characters f ≡ [] → shapes f ≡ g ∷ [] → IsGeometry g → IsFilter f
one_shape f g cs gs is = record { characters = subst (All IsScalar) (sym cs) (All-nil IsScalar); shapes = subst (All IsGeometry) (sym gs) (All-cons IsGeometry g [] is (All-nil IsGeometry)) }

all_characters : (fs : List Filter) → AreFilters fs → All IsScalar (flat_map (λ part. part) (map characters fs))
all_characters [] are = All-nil IsScalar
all_characters (f ∷ fs) are =
    subst (All IsScalar) (sym (flat_map-cons (λ part. part) (characters f) (map characters fs))) (All-append IsScalar (characters f) (flat_map (λ part. part) (map characters fs)) are.0.characters (all_characters fs are.1))

all_shapes : (fs : List Filter) → AreFilters fs → All IsGeometry (flat_map (λ part. part) (map shapes fs))
all_shapes [] are = All-nil IsGeometry
all_shapes (f ∷ fs) are =
    subst (All IsGeometry) (sym (flat_map-cons (λ part. part) (shapes f) (map shapes fs))) (All-append IsGeometry (shapes f) (flat_map (λ part. part) (map shapes fs)) are.0.shapes (all_shapes fs are.1))

both_is : (fs : List Filter) → AreFilters fs → IsFilter (Both fs)
both_is fs are = record {
  characters = subst (All IsScalar) (sym (ap characters (sym (rolls-Both fs)) ∙ fold-roll-Filter (List ℕ) characters_step (Filter-F.Both fs))) (all_characters fs are);
  shapes = subst (All IsGeometry) (sym (ap shapes (sym (rolls-Both fs)) ∙ fold-roll-Filter (List Geometry) shapes_step (Filter-F.Both fs))) (all_shapes fs are);
}

either_is : (fs : List Filter) → AreFilters fs → IsFilter (Either fs)
either_is fs are = record {
  characters = subst (All IsScalar) (sym (ap characters (sym (rolls-Either fs)) ∙ fold-roll-Filter (List ℕ) characters_step (Filter-F.Either fs))) (all_characters fs are);
  shapes = subst (All IsGeometry) (sym (ap shapes (sym (rolls-Either fs)) ∙ fold-roll-Filter (List Geometry) shapes_step (Filter-F.Either fs))) (all_shapes fs are);
}

not_is : (f : Filter) → IsFilter f → IsFilter (Not f)
not_is f is = record {
  characters = subst (All IsScalar) (sym (ap characters (sym (rolls-Not f)) ∙ fold-roll-Filter (List ℕ) characters_step (Filter-F.Not f))) is.characters;
  shapes = subst (All IsGeometry) (sym (ap shapes (sym (rolls-Not f)) ∙ fold-roll-Filter (List Geometry) shapes_step (Filter-F.Not f))) is.shapes;
}

module _ (names : Prefixes) (are : ArePrefixes names) (fes_covered : is_covered names (fes []) ≡ true) (gml_covered : is_covered names (gml_name []) ≡ true)
    (listed : List (List ℕ)) (texts : AreTexts listed) (schema : Schema) (keeps : KeepsRules schema) (kind : Option ℕ) where
  abbrev ps : Option (List (List ℕ))
  ps = Some listed

  abbrev standing : ℕ → ℕ → Element → Type 0
  standing = Stands names are fes_covered gml_covered listed texts schema keeps kind

  abbrev all_standing : ℕ → ℕ → List Element → Type 0
  all_standing = StandAll names are fes_covered gml_covered listed texts schema keeps kind

  abbrev tree : Filter → Element
  tree = operator_tree ps schema kind

  abbrev read : Element → Reading
  read = operator_of ps schema kind

  abbrev inner : Element → List Reading
  inner e = map read (out-Element e).children

  in_group : (d n : ℕ) (local : List ℕ) (kids : List Element) → IsName local → 0 < d → 0 < n → all_standing (pred d) (pred n) kids → standing d n (parent local kids)
  in_group = group_stands names are fes_covered gml_covered listed texts schema keeps kind false

  -- ---- in which none stands

  pub record Good (d n : ℕ) (f : Filter) : Type 0 where
    pub stands : standing d n (tree f)
    pub content : content_by ps schema (tree f) (out-Filter f) ≡ tree f ∷ []
    pub is : IsFilter f

  content_is : (x : Filter-F Filter) (f : Filter) → roll-Filter x ≡ f → content_by ps schema (tree f) (out-Filter f) ≡ content_by ps schema (tree f) x
  content_is x f e = ap (content_by ps schema (tree f)) (ap out-Filter (sym e) ∙ out-roll-Filter x)

  given : (d n : ℕ) (f : Filter) (t : Element) → tree f ≡ t → standing d n t → content_by ps schema (tree f) (out-Filter f) ≡ tree f ∷ [] → IsFilter f → Good d n f
  given d n f t same stands content is = record { stands = subst (standing d n) (sym same) stands; content = content; is = is }

  -- the trees, the characters and the geometries of operators in which none stands
  module _ (x : Filter-F Filter) (f : Filter) (rolls : roll-Filter x ≡ f) where
    tree_is : tree f ≡ tree (roll-Filter x)
    tree_is = ap tree (sym rolls)

    characters_are : characters f ≡ characters (roll-Filter x)
    characters_are = ap characters (sym rolls)

    shapes_are : shapes f ≡ shapes (roll-Filter x)
    shapes_are = ap shapes (sym rolls)

  predicate_good : (d n : ℕ) (p : Predicate) (e : Element) (f : Filter) → predicate_of ps schema kind e p ≡ Ok f → Fits d n e → Good d n f
  unfolding predicate_of
  predicate_good d n (Test.Compare by) e f h fit =
      let a = compare_stands names are fes_covered gml_covered listed texts schema keeps kind d n by e f h fit in
      let x : Filter-F Filter = Filter-F.Compare by a.0 a.1 a.2 in
      let g = Compare by a.0 a.1 a.2 in
      let rolls = rolls-Compare by a.0 a.1 a.2 in
      subst (Good d n) (sym a.3) (given d n g (compare_tree ps schema kind by a.0 a.1 a.2) (tree_is x g rolls ∙ fold-roll-Filter Element (operator_step ps schema kind) x) a.4 (content_is x g rolls)
      (no_parts g (characters_are x g rolls ∙ fold-roll-Filter (List ℕ) characters_step x) (shapes_are x g rolls ∙ fold-roll-Filter (List Geometry) shapes_step x)))
  predicate_good d n Test.Like e f h fit =
      let a = like_stands names are fes_covered gml_covered listed texts schema keeps kind d n e f h fit in
      let x : Filter-F Filter = Filter-F.Like a.property a.pattern in
      let g = Like a.property a.pattern in
      let rolls = rolls-Like a.property a.pattern in
      subst (Good d n) (sym a.is) (given d n g (like_tree schema kind a.property a.pattern) (tree_is x g rolls ∙ fold-roll-Filter Element (operator_step ps schema kind) x) a.stands (content_is x g rolls) (record {
        characters = subst (All IsScalar) (sym (characters_are x g rolls ∙ fold-roll-Filter (List ℕ) characters_step x)) a.scalars;
        shapes = subst (All IsGeometry) (sym (shapes_are x g rolls ∙ fold-roll-Filter (List Geometry) shapes_step x)) (All-nil IsGeometry);
      }))
  predicate_good d n Test.Null e f h fit =
      let a = null_stands names are fes_covered gml_covered listed texts schema keeps kind d n e f h fit in
      let x : Filter-F Filter = Filter-F.IsNull a.0 in
      let g = IsNull a.0 in
      let rolls = rolls-IsNull a.0 in
      subst (Good d n) (sym a.1) (given d n g (null_tree schema kind a.0) (tree_is x g rolls ∙ fold-roll-Filter Element (operator_step ps schema kind) x) a.2 (content_is x g rolls)
      (no_parts g (characters_are x g rolls ∙ fold-roll-Filter (List ℕ) characters_step x) (shapes_are x g rolls ∙ fold-roll-Filter (List Geometry) shapes_step x)))
  predicate_good d n Test.Between e f h fit =
      let a = between_stands names are fes_covered gml_covered listed texts schema keeps kind d n e f h fit in
      let x : Filter-F Filter = Filter-F.Between a.0 a.1 a.2 in
      let g = Between a.0 a.1 a.2 in
      let rolls = rolls-Between a.0 a.1 a.2 in
      subst (Good d n) (sym a.3) (given d n g (between_tree ps schema kind a.0 a.1 a.2) (tree_is x g rolls ∙ fold-roll-Filter Element (operator_step ps schema kind) x) a.4 (content_is x g rolls)
      (no_parts g (characters_are x g rolls ∙ fold-roll-Filter (List ℕ) characters_step x) (shapes_are x g rolls ∙ fold-roll-Filter (List Geometry) shapes_step x)))
  predicate_good d n Test.Bbox e f h fit =
      let a = box_stands names are fes_covered gml_covered listed texts schema keeps kind d n e f h fit in
      let x : Filter-F Filter = Filter-F.InBox a.property a.area in
      let g = InBox a.property a.area in
      let rolls = rolls-InBox a.property a.area in
      subst (Good d n) (sym a.is) (given d n g (box_tree schema kind a.property a.area) (tree_is x g rolls ∙ fold-roll-Filter Element (operator_step ps schema kind) x) a.stands (content_is x g rolls)
      (no_parts g (characters_are x g rolls ∙ fold-roll-Filter (List ℕ) characters_step x) (shapes_are x g rolls ∙ fold-roll-Filter (List Geometry) shapes_step x)))
  predicate_good d n Test.Intersects e f h fit =
      let o = bind_ok (operands_of schema.srs _ e) _ f h in
      let a = operands_stand names are fes_covered gml_covered listed texts schema keeps kind d n (codes "Intersects") e o.0 (record { first = refl; each = refl }) o.1 fit in
      let x : Filter-F Filter = Filter-F.Meets o.0.0 o.0.1 in
      let g = Meets o.0.0 o.0.1 in
      let rolls = rolls-Meets o.0.0 o.0.1 in
      subst (Good d n) (ok_is FilterDocFault g f o.2) (given d n g (shape_tree schema kind (codes "Intersects") o.0.0 o.0.1) (tree_is x g rolls ∙ fold-roll-Filter Element (operator_step ps schema kind) x) a.stands (content_is x g rolls)
      (one_shape g o.0.1 (characters_are x g rolls ∙ fold-roll-Filter (List ℕ) characters_step x) (shapes_are x g rolls ∙ fold-roll-Filter (List Geometry) shapes_step x) a.shape))
  predicate_good d n Test.Disjoint e f h fit =
      let o = bind_ok (operands_of schema.srs _ e) _ f h in
      let a = operands_stand names are fes_covered gml_covered listed texts schema keeps kind d n (codes "Disjoint") e o.0 (record { first = refl; each = refl }) o.1 fit in
      let x : Filter-F Filter = Filter-F.Apart o.0.0 o.0.1 in
      let g = Apart o.0.0 o.0.1 in
      let rolls = rolls-Apart o.0.0 o.0.1 in
      subst (Good d n) (ok_is FilterDocFault g f o.2) (given d n g (shape_tree schema kind (codes "Disjoint") o.0.0 o.0.1) (tree_is x g rolls ∙ fold-roll-Filter Element (operator_step ps schema kind) x) a.stands (content_is x g rolls)
      (one_shape g o.0.1 (characters_are x g rolls ∙ fold-roll-Filter (List ℕ) characters_step x) (shapes_are x g rolls ∙ fold-roll-Filter (List Geometry) shapes_step x) a.shape))
  predicate_good d n Test.ResourceId e f h fit =
      let id = bind_ok (id_at ps schema e) _ f h in
      let x : Filter-F Filter = Filter-F.Ids (id.0 ∷ []) in
      let g = Ids (id.0 ∷ []) in
      let rolls = rolls-Ids (id.0 ∷ []) in
      let same : tree g ≡ id_tree ps schema id.0 = tree_is x g rolls ∙ fold-roll-Filter Element (operator_step ps schema kind) x in
      let q = parts d n e fit in
      subst (Good d n) (ok_is FilterDocFault g f id.2) (given d n g (id_tree ps schema id.0) same (id_stands names are fes_covered gml_covered listed texts schema keeps kind d n id.0 q.deep q.many)
      (content_is x g rolls ∙ ap (λ t. t ∷ []) (sym same))
      (no_parts g (characters_are x g rolls ∙ fold-roll-Filter (List ℕ) characters_step x) (shapes_are x g rolls ∙ fold-roll-Filter (List Geometry) shapes_step x)))

  -- ---- operators of operators

  abbrev Fine : Element → Type 0
  Fine e = (d k n m : ℕ) (f : Filter) → read e n ≡ Ok (f, m) → Fits d k e → Good d k f

  abbrev AllFine : List Element → Type 0
  AllFine = HoldAll Fine

  record AllGood (d k : ℕ) (fs : List Filter) : Type 0 where
    stand : all_standing d k (map tree fs)
    filters : AreFilters fs

  through_good : (es : List Element) → AllFine es → (d k n : ℕ) (found : List Filter × ℕ) → through (map read es) n ≡ Ok found → FitAll d k es → AllGood d k found.0
  through_good [] all d k n found h fit = subst (λ (x : List Filter × ℕ). AllGood d k x.0) (ok_is FilterDocFault ([], n) found h) (record { stand = nothing names false d k; filters = tt })
  through_good (e ∷ es) all d k n found h fit =
      let x = bind_ok (read e n) _ found h in
      let y = bind_ok (through (map read es) x.0.1) _ found x.2 in
      let s = split d k e es fit in
      let first = all.0 d s.here n x.0.1 x.0.0 x.1 s.one in
      let rest = through_good es all.1 d s.there x.0.1 y.0 y.1 s.rest in
      subst (λ (z : List Filter × ℕ). AllGood d k z.0) (ok_is FilterDocFault (x.0.0 ∷ y.0.0, y.0.1) found y.2)
      (record { stand = beside names false d s.here s.there k _ _ s.total first.stands rest.stand; filters = (first.is, rest.filters) })

  several_good : (name : List ℕ) (es : List Element) → AllFine es → (d k n : ℕ) (found : List Filter × ℕ) → several name (map read es) n ≡ Ok found → FitAll d k es → AllGood d k found.0
  unfolding several
  several_good name es all d k n found h fit =
      let some = bind_ok (each next_operator ([], n) (map read es)) _ found h in
      through_good es all d k n found (sym (all_through (map read es) n) ∙ some.1 ∙ ap Ok (enough (nat_lt (length some.0.0) 2) (Shape name) some.0 found some.2).1) fit

  abbrev group : (List Filter → Filter) → Element → ℕ → Result (Filter × ℕ) FilterDocFault
  group build e n = no_others [] e >>= λ _. several (local_of e) (inner e) n >>= λ found. Ok (build found.0, found.1)

  -- one of And and Or, with its parts
  module _ (build : List Filter → Filter) (local : List ℕ) (is : IsName local) (same : (fs : List Filter) → tree (build fs) ≡ parent local (map tree fs))
      (content : (fs : List Filter) → content_by ps schema (tree (build fs)) (out-Filter (build fs)) ≡ tree (build fs) ∷ []) (filters : (fs : List Filter) → AreFilters fs → IsFilter (build fs)) where
    group_good : (e : Element) → AllFine (out-Element e).children → (d k n m : ℕ) (f : Filter) → group build e n ≡ Ok (f, m) → Fits d k e → Good d k f
    group_good e all d k n m f h fit =
        let none = bind_ok (no_others [] e) _ (f, m) h in
        let found = bind_ok (several (local_of e) (inner e) n) _ (f, m) none.2 in
        let q = parts d k e fit in
        let g = several_good (local_of e) (out-Element e).children all (pred d) (pred k) n found.0 found.1 q.kids in
        let fs = found.0.0 in
        subst (λ (x : Filter × ℕ). Good d k x.0) (ok_is FilterDocFault (build fs, found.0.1) (f, m) found.2)
        (given d k (build fs) (parent local (map tree fs)) (same fs) (in_group d k local (map tree fs) is q.deep q.many g.stand) (content fs) (filters fs g.filters))

  both_tree : (fs : List Filter) → tree (Both fs) ≡ parent (codes "And") (map tree fs)
  both_tree fs = ap tree (sym (rolls-Both fs)) ∙ fold-roll-Filter Element (operator_step ps schema kind) (Filter-F.Both fs)

  either_tree : (fs : List Filter) → tree (Either fs) ≡ parent (codes "Or") (map tree fs)
  either_tree fs = ap tree (sym (rolls-Either fs)) ∙ fold-roll-Filter Element (operator_step ps schema kind) (Filter-F.Either fs)

  not_tree : (f : Filter) → tree (Not f) ≡ parent (codes "Not") (tree f ∷ [])
  not_tree f = ap tree (sym (rolls-Not f)) ∙ fold-roll-Filter Element (operator_step ps schema kind) (Filter-F.Not f)

  one_good : (name : List ℕ) (es : List Element) (d k n : ℕ) (found : Filter × ℕ) → AllFine es → one name es (map read es) n ≡ Ok found → FitAll d k es → Good d k found.0
  one_good name [] d k n found all h fit = absurd cc
  one_good name (e ∷ es) d k n found all h fit =
      let x = bind_ok (read e n) _ found h in
      let end = bind_ok (no_more es) _ found x.2 in
      let s = split d k e es fit in
      let g = all.0 d s.here n found.1 found.0 (x.1 ∙ end.2) s.one in
      record { stands = more names false d d s.here k _ (omega arith) (omega (arith, s.total)) g.stands; content = g.content; is = g.is }

  operation_good : (operator : Operator) (e : Element) → AllFine (out-Element e).children → (d k n m : ℕ) (f : Filter) → operation ps schema kind e (inner e) operator n ≡ Ok (f, m) → Fits d k e → Good d k f
  unfolding operation
  operation_good Operator.And e all d k n m f h fit =
      group_good Both (codes "And") (record { first = refl; each = refl }) both_tree (λ fs. content_is (Filter-F.Both fs) (Both fs) (rolls-Both fs)) both_is e all d k n m f h fit
  operation_good Operator.Or e all d k n m f h fit =
      group_good Either (codes "Or") (record { first = refl; each = refl }) either_tree (λ fs. content_is (Filter-F.Either fs) (Either fs) (rolls-Either fs)) either_is e all d k n m f h fit
  operation_good Operator.Not e all d k n m f h fit =
      let none = bind_ok (no_others [] e) _ (f, m) h in
      let found = bind_ok (one (local_of e) (out-Element e).children (inner e) n) _ (f, m) none.2 in
      let q = parts d k e fit in
      let g = one_good (local_of e) (out-Element e).children (pred d) (pred k) n found.0 all found.1 q.kids in
      let part = found.0.0 in
      subst (λ (x : Filter × ℕ). Good d k x.0) (ok_is FilterDocFault (Not part, found.0.1) (f, m) found.2)
      (given d k (Not part) (parent (codes "Not") (tree part ∷ [])) (not_tree part) (in_group d k (codes "Not") (tree part ∷ []) (record { first = refl; each = refl }) q.deep q.many (alone names false (pred d) (pred k) _ g.stands))
      (content_is (Filter-F.Not part) (Not part) (rolls-Not part)) (not_is part g.is))
  operation_good (Operator.Predicate p) e all d k n m f h fit =
      let x = bind_ok (predicate_of ps schema kind e p) _ (f, m) h in
      subst (λ (y : Filter × ℕ). Good d k y.0) (ok_is FilterDocFault (x.0, n) (f, m) x.2) (predicate_good d k p e x.0 x.1 fit)

  step_fine : (e : Element) → AllFine (out-Element e).children → Fine e
  unfolding operator_by
  step_fine e all d k n m f h fit =
      let operator = bind_ok (operator_in (out-Element e).name) _ (f, m) (sym (operator_is ps schema kind e n) ∙ h) in
      let left = bind_ok (counted n) _ (f, m) operator.2 in
      operation_good operator.0 e all d k left.0 m f left.2 fit

  fine : (e : Element) → Fine e
  fine = by_children Fine step_fine

  -- ---- the whole

  record Named (d k : ℕ) (acc all : List IdRef) : Type 0 where
    more_ids : List IdRef
    are_all : all ≡ acc ++ more_ids
    stand : all_standing d k (map (id_tree ps schema) more_ids)

  ids_stand : (d k : ℕ) (es : List Element) (acc all : List IdRef) → each (next_id ps schema) acc es ≡ Ok all → FitAll d k es → Named d k acc all
  unfolding each next_id
  ids_stand d k [] acc all h fit = record { more_ids = []; are_all = sym (ok_is FilterDocFault acc all h) ∙ sym (append-nil acc); stand = nothing names false d k }
  ids_stand d k (e ∷ es) acc all h fit =
      let x = bind_ok (next_id ps schema acc e) (λ more. each (next_id ps schema) more es) all h in
      let is = bind_ok (named (codes "ResourceId") e) _ x.0 x.1 in
      let id = bind_ok (id_at ps schema e) (λ id. Ok (acc ++ id ∷ [])) x.0 is.2 in
      let s = split d k e es fit in
      let rest = ids_stand d s.there es x.0 all x.2 s.rest in
      let x_is : acc ++ id.0 ∷ [] ≡ x.0 = ok_is FilterDocFault (acc ++ id.0 ∷ []) x.0 id.2 in
      record {
        more_ids = id.0 ∷ rest.more_ids;
        are_all = rest.are_all ∙ ap (λ xs. xs ++ rest.more_ids) (sym x_is) ∙ append_assoc acc (id.0 ∷ []) rest.more_ids;
        stand = beside names false d s.here s.there k _ _ s.total (id_stands names are fes_covered gml_covered listed texts schema keeps kind d s.here id.0 s.deep s.some) rest.stand;
      }

  -- the elements in a Filter
  record Content (d k : ℕ) (f : Filter) : Type 0 where
    stand : all_standing d k (content_by ps schema (tree f) (out-Filter f))
    is : IsFilter f

  ids_content : (d k : ℕ) (es : List Element) (f : Filter) → ids_in ps schema es ≡ Ok f → FitAll d k es → Content d k f
  ids_content d k es f h fit =
      let ids = bind_ok (each (next_id ps schema) [] es) _ f h in
      let found = ids_stand d k es [] ids.0 ids.1 fit in
      let x : Filter-F Filter = Filter-F.Ids ids.0 in
      let g = Ids ids.0 in
      let rolls = rolls-Ids ids.0 in
      subst (Content d k) (ok_is FilterDocFault g f ids.2) (record {
        stand = subst (all_standing d k) (sym (content_is x g rolls)) (subst (λ is. all_standing d k (map (id_tree ps schema) is)) (sym found.are_all) found.stand);
        is = no_parts g (characters_are x g rolls ∙ fold-roll-Filter (List ℕ) characters_step x) (shapes_are x g rolls ∙ fold-roll-Filter (List Geometry) shapes_step x);
      })

  operator_content : (d k : ℕ) (whole : Element) (es : List Element) (a : Element × List Element) (f : Filter) → first_in whole es ≡ Ok a → content_from ps schema kind a.0 a.1 ≡ Ok f → FitAll d k es → Content d k f
  unfolding content_from
  operator_content d k whole es a f first h fit =
      let found = bind_ok (read a.0 most_operators) _ f h in
      let end = bind_ok (no_more a.1) _ f found.2 in
      let s = split d k a.0 a.1 (subst (FitAll d k) (first_behind whole es a first) fit) in
      let g = fine a.0 d s.here most_operators found.0.1 found.0.0 found.1 s.one in
      subst (Content d k) (ok_is FilterDocFault found.0.0 f end.2)
      (record { stand = subst (all_standing d k) (sym g.content) (beside names false d s.here s.there k _ [] s.total g.stands (nothing names false d s.there)); is = g.is })

  content_good : (d k : ℕ) (whole : Element) (es : List Element) (f : Filter) → content_of ps schema kind whole es ≡ Ok f → FitAll d k es → Content d k f
  content_good d k whole es f h fit =
      let a = bind_ok (first_in whole es) _ f h in
      elim (chosen (is_fes (codes "ResourceId") a.0.0) _ _ (Ok f) a.2) [
        | inl ids ↦ ids_content d k es f ids.1 fit
        | inr operator ↦ operator_content d k whole es a.0 f a.1 operator.1 fit
      ]

  pub record Whole (is_root : Bool) (d k : ℕ) (f : Filter) : Type 0 where
    pub stands : Canon names is_root d (filter_tree ps schema kind f) k
    pub is : IsFilter f

  pub filter_stands : (is_root : Bool) (d k : ℕ) (e : Element) (f : Filter) → filter_of ps schema kind e ≡ Ok f → Fits d k e → Whole is_root d k f
  unfolding filter_of filter_tree
  filter_stands is_root d k e f h fit =
      let whole = if_ok (is_fes (codes "Filter") e) _ (Shape (local_of e)) f h in
      let none = bind_ok (no_others [] e) _ f whole.1 in
      let q = parts d k e fit in
      let c = content_good (pred d) (pred k) e (out-Element e).children f none.2 q.kids in
      record { stands = group_stands names are fes_covered gml_covered listed texts schema keeps kind is_root d k (codes "Filter") _ (record { first = refl; each = refl }) q.deep q.many c.stand; is = c.is }
