-- Operators, and with them whole filters, read back as they were written.
use Rattle.std.proofs.Common.{◌≡◌, ℕ, ◌<◌, Bool, true, false, ◌&&◌, List, [], ◌∷◌, length, map, Option, Result, Ok, Err, refl, sym, ap, subst, ◌∙◌, arith}
use Rattle.std.specs.Prelude.{codes, if◌then◌else◌, nat_lt}
use Rattle.std.specs.Str.{bytes_eq}
use Rattle.wfs_ends.specs.Read.{◌>>=◌, each}
use Rattle.wfs_ends.proofs.Turns.{bind_ok, if_ok, ok_is}
use Rattle.doc_tree.specs.declared.tree.Element.{Element, out-Element}
use Rattle.feature_values.specs.declared.schema.Schema.{Schema}
use Rattle.fes_filter.specs.Check.{most_operators}
use Rattle.fes_filter.specs.declared.ids.IdRef.{IdRef}
use Rattle.fes_filter.specs.declared.filter.Filter.{Filter, out-Filter}
use Rattle.fes_filter.specs.declared.filter.Filter.TheVariants.{Both, Either, Not, Compare, Like, IsNull, Between, Ids, InBox, Meets, Apart, rolls-Both, rolls-Either, rolls-Not, rolls-Compare, rolls-Like, rolls-IsNull, rolls-Between, rolls-Ids, rolls-InBox, rolls-Meets, rolls-Apart}
use Rattle.fes_filter.specs.declared.filter.Filter.TheOpen.{Filter-F}
use Rattle.fes_filter.specs.declared.filter.Filter.TheViews.{roll-Filter, out-roll-Filter}
use Rattle.fes_filter.specs.declared.filter.Filter.TheFolds.{fold-roll-Filter}
use Rattle.fes_docs.specs.declared.fault.FilterDocFault.{FilterDocFault}
use Rattle.fes_docs.specs.declared.fault.FilterDocFault.TheVariants.{Shape}
use Rattle.fes_docs.specs.declared.operator.Predicate.{Predicate}
use Rattle.fes_docs.specs.declared.operator.Predicate.TheVariants as Test
use Rattle.fes_docs.specs.declared.operator.Operator.{Operator}
use Rattle.fes_docs.specs.Names.{fes_space, is_fes, local_of, named, no_others, no_more, first_in}
use Rattle.fes_docs.specs.Operators.{operator_in}
use Rattle.fes_docs.specs.Filters.{Reading, counted, only_id, predicate_of, next_operator, several, one, operation, operator_by, operator_of, ids_in, content_from, content_of, filter_of}
use Rattle.fes_docs.specs.Ids.{id_at, next_id}
use Rattle.fes_docs.specs.Written.{parent, compare_tree, like_tree, null_tree, between_tree, box_tree, shape_tree, id_tree, operator_step, operator_tree, content_by, filter_tree, comparison_name}
use Rattle.fes_docs.specs.RoundTrip.{CanBeWritten, IsFilter, ReadsBack}
use Rattle.fes_docs.proofs.Built.{no_more_at_end, has_name, parent_name, parent_children, parent_others, parent_named}
use Rattle.fes_docs.proofs.Children.{HoldAll, by_children}
use Rattle.fes_docs.proofs.Readings.{operator_is}
use Rattle.fes_docs.proofs.Named.{same_text}
use Rattle.fes_docs.proofs.Likes.{like_again}
use Rattle.fes_docs.proofs.Compared.{compare_again}
use Rattle.fes_docs.proofs.Ranges.{between_again, null_again}
use Rattle.fes_docs.proofs.Drawn.{box_again, drawn_again}
use Rattle.fes_docs.proofs.Identifiers.{id_again, id_named, ids_again}
use Rattle.fes_docs.proofs.Parts.{enough, through, all_through, AreFilters, both_parts, either_parts, not_part, like_characters, meets_shape, apart_shape, fes, Names, compare_named, and_named, or_named, not_named, like_named, null_named, between_named, box_named, meets_named, apart_named, id_named_so}

both : (a b : Bool) → (a && b) ≡ true → (a ≡ true) × (b ≡ true)
both true b e = (refl, e)
both false b e = absurd cc

resource_named : (t : Element) → is_fes (codes "ResourceId") t ≡ true → operator_in (out-Element t).name ≡ Ok (Operator.Predicate Test.ResourceId)
unfolding is_fes operator_in
resource_named t h =
    let name = (out-Element t).name in
    let parts = both (bytes_eq name.space fes_space) (bytes_eq name.local (codes "ResourceId")) h in
    let local : name.local ≡ codes "ResourceId" = same_text name.local (codes "ResourceId") parts.1 in
    rw (parts.0, local) id_named_so

-- ---- operators

module _ (parameters : Option (List (List ℕ))) (schema : Schema) (kind : Option ℕ) (can : CanBeWritten schema) where
  abbrev tree : Filter → Element
  tree = operator_tree parameters schema kind

  abbrev read : Element → Reading
  read = operator_of parameters schema kind

  abbrev inner : Element → List Reading
  inner e = map read (out-Element e).children

  reads_by : (e : Element) (operator : Operator) (n k : ℕ) (out : Result (Filter × ℕ) FilterDocFault) → operator_in (out-Element e).name ≡ Ok operator → counted n ≡ Ok k
      → operation parameters schema kind e (inner e) operator k ≡ out → read e n ≡ out
  unfolding operator_by
  reads_by e operator n k out name count is = operator_is parameters schema kind e n ∙ rw (name, count) is

  -- it reads back as an operator, and stands as one in a Filter
  record Again (f : Filter) (n m : ℕ) : Type 0 where
    reads : read (tree f) n ≡ Ok (f, m)
    stands : content_by parameters schema (tree f) (out-Filter f) ≡ tree f ∷ []

  -- ---- in which none stands

  record PredicateAgain (f : Filter) : Type 0 where
    predicate : Predicate
    name : operator_in (out-Element (tree f)).name ≡ Ok (Operator.Predicate predicate)
    value : predicate_of parameters schema kind (tree f) predicate ≡ Ok f
    alone : content_by parameters schema (tree f) (out-Filter f) ≡ tree f ∷ []

  given : (f : Filter) (t : Element) (local : List ℕ) (p : Predicate) → tree f ≡ t → (out-Element t).name ≡ fes local → Names local (Operator.Predicate p) → predicate_of parameters schema kind t p ≡ Ok f
      → content_by parameters schema (tree f) (out-Filter f) ≡ tree f ∷ [] → PredicateAgain f
  given f t local p is name named value alone = record {
    predicate = p;
    name = ap (λ e. operator_in (out-Element e).name) is ∙ ap operator_in name ∙ named;
    value = ap (λ e. predicate_of parameters schema kind e p) is ∙ value;
    alone = alone;
  }

  content_is : (x : Filter-F Filter) (f : Filter) → roll-Filter x ≡ f → content_by parameters schema (tree f) (out-Filter f) ≡ content_by parameters schema (tree f) x
  content_is x f e = ap (content_by parameters schema (tree f)) (ap out-Filter (sym e) ∙ out-roll-Filter x)

  predicate_again : (p : Predicate) (e : Element) (f : Filter) → predicate_of parameters schema kind e p ≡ Ok f → IsFilter f → PredicateAgain f
  unfolding predicate_of compare_tree like_tree null_tree between_tree box_tree shape_tree id_tree parent
  predicate_again (Test.Compare by) e f h is =
      let a = compare_again parameters schema kind can.prefix by e f h in
      let g = Compare by a.0 a.1 a.2 in
      let t = compare_tree parameters schema kind by a.0 a.1 a.2 in
      subst PredicateAgain (sym a.3) (given g t (comparison_name by) (Test.Compare by)
      (ap tree (sym (rolls-Compare by a.0 a.1 a.2)) ∙ fold-roll-Filter Element (operator_step parameters schema kind) (Filter-F.Compare by a.0 a.1 a.2))
      (has_name _ _ _ _) (compare_named by) (a.4 ∙ ap Ok a.3) (content_is (Filter-F.Compare by a.0 a.1 a.2) g (rolls-Compare by a.0 a.1 a.2)))
  predicate_again Test.Like e f h is =
      let a = like_again schema kind can.prefix e f h in
      let g = Like a.0 a.1 in
      let scalars = like_characters a.0 a.1 (subst IsFilter a.2 is) in
      subst PredicateAgain (sym a.2) (given g (like_tree schema kind a.0 a.1) (codes "PropertyIsLike") Test.Like
      (ap tree (sym (rolls-Like a.0 a.1)) ∙ fold-roll-Filter Element (operator_step parameters schema kind) (Filter-F.Like a.0 a.1))
      (has_name _ _ _ _) like_named (a.3 scalars ∙ ap Ok a.2) (content_is (Filter-F.Like a.0 a.1) g (rolls-Like a.0 a.1)))
  predicate_again Test.Null e f h is =
      let a = null_again parameters schema kind can.prefix e f h in
      let g = IsNull a.0 in
      subst PredicateAgain (sym a.1) (given g (null_tree schema kind a.0) (codes "PropertyIsNull") Test.Null
      (ap tree (sym (rolls-IsNull a.0)) ∙ fold-roll-Filter Element (operator_step parameters schema kind) (Filter-F.IsNull a.0))
      (has_name _ _ _ _) null_named (a.2 ∙ ap Ok a.1) (content_is (Filter-F.IsNull a.0) g (rolls-IsNull a.0)))
  predicate_again Test.Between e f h is =
      let a = between_again parameters schema kind can.prefix e f h in
      let g = Between a.0 a.1 a.2 in
      subst PredicateAgain (sym a.3) (given g (between_tree parameters schema kind a.0 a.1 a.2) (codes "PropertyIsBetween") Test.Between
      (ap tree (sym (rolls-Between a.0 a.1 a.2)) ∙ fold-roll-Filter Element (operator_step parameters schema kind) (Filter-F.Between a.0 a.1 a.2))
      (has_name _ _ _ _) between_named (a.4 ∙ ap Ok a.3) (content_is (Filter-F.Between a.0 a.1 a.2) g (rolls-Between a.0 a.1 a.2)))
  predicate_again Test.Bbox e f h is =
      let a = box_again schema kind can.prefix can.srs e f h in
      let g = InBox a.0 a.1 in
      subst PredicateAgain (sym a.2) (given g (box_tree schema kind a.0 a.1) (codes "BBOX") Test.Bbox
      (ap tree (sym (rolls-InBox a.0 a.1)) ∙ fold-roll-Filter Element (operator_step parameters schema kind) (Filter-F.InBox a.0 a.1))
      (has_name _ _ _ _) box_named (a.3 ∙ ap Ok a.2) (content_is (Filter-F.InBox a.0 a.1) g (rolls-InBox a.0 a.1)))
  predicate_again Test.Intersects e f h is =
      let a = drawn_again schema kind can.prefix can.srs Meets (codes "Intersects") e f h in
      let g = Meets a.0 a.1 in
      let shape = meets_shape a.0 a.1 (subst IsFilter a.2 is) in
      subst PredicateAgain (sym a.2) (given g (shape_tree schema kind (codes "Intersects") a.0 a.1) (codes "Intersects") Test.Intersects
      (ap tree (sym (rolls-Meets a.0 a.1)) ∙ fold-roll-Filter Element (operator_step parameters schema kind) (Filter-F.Meets a.0 a.1))
      (has_name _ _ _ _) meets_named (a.3 shape ∙ ap Ok a.2) (content_is (Filter-F.Meets a.0 a.1) g (rolls-Meets a.0 a.1)))
  predicate_again Test.Disjoint e f h is =
      let a = drawn_again schema kind can.prefix can.srs Apart (codes "Disjoint") e f h in
      let g = Apart a.0 a.1 in
      let shape = apart_shape a.0 a.1 (subst IsFilter a.2 is) in
      subst PredicateAgain (sym a.2) (given g (shape_tree schema kind (codes "Disjoint") a.0 a.1) (codes "Disjoint") Test.Disjoint
      (ap tree (sym (rolls-Apart a.0 a.1)) ∙ fold-roll-Filter Element (operator_step parameters schema kind) (Filter-F.Apart a.0 a.1))
      (has_name _ _ _ _) apart_named (a.3 shape ∙ ap Ok a.2) (content_is (Filter-F.Apart a.0 a.1) g (rolls-Apart a.0 a.1)))
  predicate_again Test.ResourceId e f h is =
      let id = bind_ok (id_at parameters schema e) (λ id. Ok (Ids (id ∷ []))) f h in
      let f_is : f ≡ Ids (id.0 ∷ []) = sym (ok_is FilterDocFault (Ids (id.0 ∷ [])) f id.2) in
      let g = Ids (id.0 ∷ []) in
      let is_tree : tree g ≡ id_tree parameters schema id.0 = ap tree (sym (rolls-Ids (id.0 ∷ []))) ∙ fold-roll-Filter Element (operator_step parameters schema kind) (Filter-F.Ids (id.0 ∷ [])) in
      let again : only_id parameters schema (id_tree parameters schema id.0) ≡ Ok g = ap (λ r. r >>= λ i. Ok (Ids (i ∷ []))) (id_again parameters schema e id.0 id.1) in
      subst PredicateAgain (sym f_is) (given g (id_tree parameters schema id.0) (codes "ResourceId") Test.ResourceId is_tree
      (has_name _ _ _ _) id_named_so again (content_is (Filter-F.Ids (id.0 ∷ [])) g (rolls-Ids (id.0 ∷ [])) ∙ ap (λ t. t ∷ []) (sym is_tree)))

  -- ---- operators of operators

  abbrev Back : Element → Type 0
  Back e = (n m : ℕ) (f : Filter) → read e n ≡ Ok (f, m) → IsFilter f → Again f n m

  abbrev AllBack : List Element → Type 0
  AllBack = HoldAll Back

  through_back : (es : List Element) → AllBack es → (n : ℕ) (found : List Filter × ℕ) → through (map read es) n ≡ Ok found → AreFilters found.0 → through (map read (map tree found.0)) n ≡ Ok found
  through_back [] all n found h are = subst (λ (x : List Filter × ℕ). through (map read (map tree x.0)) n ≡ Ok x) (ok_is FilterDocFault ([], n) found h) refl
  through_back (e ∷ es) all n found h are =
      let x = bind_ok (read e n) (λ x. through (map read es) x.1 >>= λ y. Ok (x.0 ∷ y.0, y.1)) found h in
      let y = bind_ok (through (map read es) x.0.1) (λ y. Ok (x.0.0 ∷ y.0, y.1)) found x.2 in
      let is : (x.0.0 ∷ y.0.0, y.0.1) ≡ found = ok_is FilterDocFault (x.0.0 ∷ y.0.0, y.0.1) found y.2 in
      let parts = subst (λ (z : List Filter × ℕ). AreFilters z.0) (sym is) are in
      let first = all.0 n x.0.1 x.0.0 x.1 parts.0 in
      let rest = through_back es all.1 x.0.1 y.0 y.1 parts.1 in
      subst (λ (z : List Filter × ℕ). through (map read (map tree z.0)) n ≡ Ok z) is (rw (first.reads, rest) refl)

  several_back : (name local : List ℕ) (es : List Element) → AllBack es → (k : ℕ) (found : List Filter × ℕ) → several name (map read es) k ≡ Ok found → AreFilters found.0
      → several local (map read (map tree found.0)) k ≡ Ok found
  unfolding several
  several_back name local es all k found h are =
      let some = bind_ok (each next_operator ([], k) (map read es)) (λ x. if nat_lt (length x.0) 2 then Err (Shape name) else Ok x) found h in
      let many = enough (nat_lt (length some.0.0) 2) (Shape name) some.0 found some.2 in
      let few : nat_lt (length found.0) 2 ≡ false = ap (λ (x : List Filter × ℕ). nat_lt (length x.0) 2) (sym many.1) ∙ many.0 in
      let was : through (map read es) k ≡ Ok found = sym (all_through (map read es) k) ∙ some.1 ∙ ap Ok many.1 in
      rw (all_through (map read (map tree found.0)) k, through_back es all k found was are, few) refl

  -- one of And and Or, with its parts
  module _ (build : List Filter → Filter) (operator : Operator) (local : List ℕ) (named : Names local operator)
      (tree_of : (fs : List Filter) → tree (build fs) ≡ parent local (map tree fs)) (alone : (fs : List Filter) → content_by parameters schema (tree (build fs)) (out-Filter (build fs)) ≡ tree (build fs) ∷ [])
      (parts : (fs : List Filter) → IsFilter (build fs) → AreFilters fs)
      (means : (e : Element) (rs : List Reading) (k : ℕ) → operation parameters schema kind e rs operator k ≡ (no_others [] e >>= λ _. several (local_of e) rs k >>= λ found. Ok (build found.0, found.1))) where
    group_back : (e : Element) → AllBack (out-Element e).children → (n k m : ℕ) (f : Filter) → counted n ≡ Ok k → operation parameters schema kind e (inner e) operator k ≡ Ok (f, m) → IsFilter f → Again f n m
    group_back e all n k m f count h is =
        let none = bind_ok (no_others [] e) (λ _. several (local_of e) (inner e) k >>= λ found. Ok (build found.0, found.1)) (f, m) (sym (means e (inner e) k) ∙ h) in
        let found = bind_ok (several (local_of e) (inner e) k) (λ found. Ok (build found.0, found.1)) (f, m) none.2 in
        let same : (build found.0.0, found.0.1) ≡ (f, m) = ok_is FilterDocFault (build found.0.0, found.0.1) (f, m) found.2 in
        let f_is : build found.0.0 ≡ f = ap (λ (x : Filter × ℕ). x.0) same in
        let m_is : found.0.1 ≡ m = ap (λ (x : Filter × ℕ). x.1) same in
        let fs = found.0.0 in
        let t = parent local (map tree fs) in
        let back = several_back (local_of e) (local_of t) (out-Element e).children all k found.0 found.1 (parts fs (subst IsFilter (sym f_is) is)) in
        let inners : inner t ≡ map read (map tree fs) = ap (map read) (parent_children local (map tree fs)) in
        let done : operation parameters schema kind t (inner t) operator k ≡ Ok (f, m) =
        means t (inner t) k ∙ rw (parent_others local (map tree fs), inners, back) (ap Ok same) in
        let reads_t : read t n ≡ Ok (f, m) = reads_by t operator n k (Ok (f, m)) (ap operator_in (parent_name local (map tree fs)) ∙ named) count done in
        record {
          reads = ap (λ (x : Filter). read (tree x) n) (sym f_is) ∙ ap (λ (x : Element). read x n) (tree_of fs) ∙ reads_t;
          stands = subst (λ (x : Filter). content_by parameters schema (tree x) (out-Filter x) ≡ tree x ∷ []) f_is (alone fs);
        }

  both_tree : (fs : List Filter) → tree (Both fs) ≡ parent (codes "And") (map tree fs)
  both_tree fs = ap tree (sym (rolls-Both fs)) ∙ fold-roll-Filter Element (operator_step parameters schema kind) (Filter-F.Both fs)

  either_tree : (fs : List Filter) → tree (Either fs) ≡ parent (codes "Or") (map tree fs)
  either_tree fs = ap tree (sym (rolls-Either fs)) ∙ fold-roll-Filter Element (operator_step parameters schema kind) (Filter-F.Either fs)

  not_tree : (f : Filter) → tree (Not f) ≡ parent (codes "Not") (tree f ∷ [])
  not_tree f = ap tree (sym (rolls-Not f)) ∙ fold-roll-Filter Element (operator_step parameters schema kind) (Filter-F.Not f)

  and_means : (e : Element) (rs : List Reading) (k : ℕ) → operation parameters schema kind e rs Operator.And k ≡ (no_others [] e >>= λ _. several (local_of e) rs k >>= λ found. Ok (Both found.0, found.1))
  unfolding operation
  and_means e rs k = refl

  or_means : (e : Element) (rs : List Reading) (k : ℕ) → operation parameters schema kind e rs Operator.Or k ≡ (no_others [] e >>= λ _. several (local_of e) rs k >>= λ found. Ok (Either found.0, found.1))
  unfolding operation
  or_means e rs k = refl

  -- ---- Not

  one_is : (name : List ℕ) (es : List Element) (k : ℕ) (found : Filter × ℕ) → AllBack es → one name es (map read es) k ≡ Ok found → IsFilter found.0 → Again found.0 k found.1
  one_is name [] k found all h is = absurd cc
  one_is name (e ∷ es) k found all h is =
      let x = bind_ok (read e k) (λ x. no_more es >>= λ _. Ok x) found h in
      let end = bind_ok (no_more es) (λ _. Ok x.0) found x.2 in
      let was : read e k ≡ Ok (found.0, found.1) = x.1 ∙ end.2 in
      all.0 k found.1 found.0 was is

  not_back : (e : Element) → AllBack (out-Element e).children → (n k m : ℕ) (f : Filter) → counted n ≡ Ok k → operation parameters schema kind e (inner e) Operator.Not k ≡ Ok (f, m) → IsFilter f → Again f n m
  unfolding operation
  not_back e all n k m f count h is =
      let none = bind_ok (no_others [] e) (λ _. one (local_of e) (out-Element e).children (inner e) k >>= λ found. Ok (Not found.0, found.1)) (f, m) h in
      let found = bind_ok (one (local_of e) (out-Element e).children (inner e) k) (λ found. Ok (Not found.0, found.1)) (f, m) none.2 in
      let same : (Not found.0.0, found.0.1) ≡ (f, m) = ok_is FilterDocFault (Not found.0.0, found.0.1) (f, m) found.2 in
      let f_is : Not found.0.0 ≡ f = ap (λ (x : Filter × ℕ). x.0) same in
      let part = found.0.0 in
      let t = parent (codes "Not") (tree part ∷ []) in
      let back = one_is (local_of e) (out-Element e).children k found.0 all found.1 (not_part part (subst IsFilter (sym f_is) is)) in
      let done : operation parameters schema kind t (inner t) Operator.Not k ≡ Ok (f, m) =
      rw (parent_others (codes "Not") (tree part ∷ []), parent_children (codes "Not") (tree part ∷ []), back.reads, no_more_at_end) (ap Ok same) in
      let reads_t : read t n ≡ Ok (f, m) = reads_by t Operator.Not n k (Ok (f, m)) (ap operator_in (parent_name (codes "Not") (tree part ∷ [])) ∙ not_named) count done in
      record {
        reads = ap (λ (x : Filter). read (tree x) n) (sym f_is) ∙ ap (λ (x : Element). read x n) (not_tree part) ∙ reads_t;
        stands = subst (λ (x : Filter). content_by parameters schema (tree x) (out-Filter x) ≡ tree x ∷ []) f_is (content_is (Filter-F.Not part) (Not part) (rolls-Not part));
      }

  -- ---- all operators

  predicate_back : (p : Predicate) (e : Element) (n k m : ℕ) (f : Filter) → counted n ≡ Ok k → operation parameters schema kind e (inner e) (Operator.Predicate p) k ≡ Ok (f, m) → IsFilter f → Again f n m
  unfolding operation
  predicate_back p e n k m f count h is =
      let x = bind_ok (predicate_of parameters schema kind e p) (λ filter. Ok (filter, k)) (f, m) h in
      let same : (x.0, k) ≡ (f, m) = ok_is FilterDocFault (x.0, k) (f, m) x.2 in
      let f_is : x.0 ≡ f = ap (λ (y : Filter × ℕ). y.0) same in
      let again = predicate_again p e f (x.1 ∙ ap Ok f_is) is in
      let k_is : k ≡ m = ap (λ (y : Filter × ℕ). y.1) same in
      record {
        reads = reads_by (tree f) (Operator.Predicate again.predicate) n k (Ok (f, m)) again.name count (rw (again.value, k_is) refl);
        stands = again.alone;
      }

  operated_back : (operator : Operator) (e : Element) → AllBack (out-Element e).children → (n k m : ℕ) (f : Filter) → counted n ≡ Ok k → operation parameters schema kind e (inner e) operator k ≡ Ok (f, m) → IsFilter f → Again f n m
  operated_back Operator.And e all = group_back Both Operator.And (codes "And") and_named both_tree (λ fs. content_is (Filter-F.Both fs) (Both fs) (rolls-Both fs)) both_parts and_means e all
  operated_back Operator.Or e all = group_back Either Operator.Or (codes "Or") or_named either_tree (λ fs. content_is (Filter-F.Either fs) (Either fs) (rolls-Either fs)) either_parts or_means e all
  operated_back Operator.Not e all = not_back e all
  operated_back (Operator.Predicate p) e all = predicate_back p e

  step_back : (e : Element) → AllBack (out-Element e).children → Back e
  unfolding operator_by
  step_back e all n m f h is =
      let operator = bind_ok (operator_in (out-Element e).name) (λ o. counted n >>= λ k. operation parameters schema kind e (inner e) o k) (f, m) (sym (operator_is parameters schema kind e n) ∙ h) in
      let k = bind_ok (counted n) (λ k. operation parameters schema kind e (inner e) operator.0 k) (f, m) operator.2 in
      operated_back operator.0 e all n k.0 m f k.1 k.2 is

  back : (e : Element) → Back e
  back = by_children Back step_back

  -- ---- the whole

  abbrev content : Element → List Element → Result Filter FilterDocFault
  content = content_of parameters schema kind

  -- one ResourceId reads alike alone and as one of several
  id_alone : (t : Element) (m : ℕ) (f : Filter) → is_fes (codes "ResourceId") t ≡ true → read t most_operators ≡ Ok (f, m) → ids_in parameters schema (t ∷ []) ≡ Ok f
  unfolding operator_by operation predicate_of each next_id named
  id_alone t m f is h =
      let operator = resource_named t is in
      let by_name : (counted most_operators >>= λ k. operation parameters schema kind t (inner t) (Operator.Predicate Test.ResourceId) k) ≡ Ok (f, m) =
      ap (λ (o : Result Operator FilterDocFault). o >>= λ o. counted most_operators >>= λ k. operation parameters schema kind t (inner t) o k) (sym operator) ∙ sym (operator_is parameters schema kind t most_operators) ∙ h in
      let k = bind_ok (counted most_operators) (λ k. operation parameters schema kind t (inner t) (Operator.Predicate Test.ResourceId) k) (f, m) by_name in
      let x = bind_ok (only_id parameters schema t) (λ filter. Ok (filter, k.0)) (f, m) k.2 in
      let f_is : x.0 ≡ f = ap (λ (y : Filter × ℕ). y.0) (ok_is FilterDocFault (x.0, k.0) (f, m) x.2) in
      let id = bind_ok (id_at parameters schema t) (λ id. Ok (Ids (id ∷ []))) x.0 x.1 in
      rw (is, id.1) (id.2 ∙ ap Ok f_is)

  content_one : (whole t : Element) (m : ℕ) (f : Filter) → read t most_operators ≡ Ok (f, m) → content whole (t ∷ []) ≡ Ok f
  unfolding content_from first_in
  content_one whole t m f h = by (is_fes (codes "ResourceId") t) refl
    where
      by : (b : Bool) → is_fes (codes "ResourceId") t ≡ b → (if b then ids_in parameters schema (t ∷ []) else content_from parameters schema kind t []) ≡ Ok f
      by true is = id_alone t m f is h
      by false is = rw (h, no_more_at_end) refl

  ids_content : (whole : Element) (ids : List IdRef) → 0 < length ids → each (next_id parameters schema) [] (map (id_tree parameters schema) ids) ≡ Ok ids → content whole (map (id_tree parameters schema) ids) ≡ Ok (Ids ids)
  unfolding first_in
  ids_content whole [] some h = absurd (omega (arith, some))
  ids_content whole (id ∷ ids) some h = rw (id_named parameters schema id) (ap (λ (r : Result (List IdRef) FilterDocFault). r >>= λ ids. Ok (Ids ids)) h)

  ids_back : (whole e : Element) (rest : List Element) (f : Filter) → ids_in parameters schema (e ∷ rest) ≡ Ok f → content whole (content_by parameters schema (tree f) (out-Filter f)) ≡ Ok f
  ids_back whole e rest f h =
      let ids = bind_ok (each (next_id parameters schema) [] (e ∷ rest)) (λ ids. Ok (Ids ids)) f h in
      let again = ids_again parameters schema (e ∷ rest) [] ids.0 ids.1 in
      let some : 0 < length ids.0 = subst (λ (xs : List IdRef). 0 < length xs) (sym again.1) (omega (arith, again.2)) in
      let each_again : each (next_id parameters schema) [] (map (id_tree parameters schema) ids.0) ≡ Ok ids.0 = ap (λ (xs : List IdRef). each (next_id parameters schema) [] (map (id_tree parameters schema) xs)) again.1 ∙ again.3 in
      subst (λ (x : Filter). content whole (content_by parameters schema (tree x) (out-Filter x)) ≡ Ok x) (ok_is FilterDocFault (Ids ids.0) f ids.2)
      (ap (content whole) (content_is (Filter-F.Ids ids.0) (Ids ids.0) (rolls-Ids ids.0)) ∙ ids_content whole ids.0 some each_again)

  operator_back : (whole e : Element) (rest : List Element) (f : Filter) → content_from parameters schema kind e rest ≡ Ok f → IsFilter f → content whole (content_by parameters schema (tree f) (out-Filter f)) ≡ Ok f
  unfolding content_from
  operator_back whole e rest f h is =
      let found = bind_ok (read e most_operators) (λ found. no_more rest >>= λ _. Ok found.0) f h in
      let end = bind_ok (no_more rest) (λ _. Ok found.0.0) f found.2 in
      let f_is : found.0.0 ≡ f = ok_is FilterDocFault found.0.0 f end.2 in
      let was : read e most_operators ≡ Ok (f, found.0.1) = found.1 ∙ ap (λ (x : Filter). Ok (x, found.0.1)) f_is in
      let again = back e most_operators found.0.1 f was is in
      ap (content whole) again.stands ∙ content_one whole (tree f) found.0.1 f again.reads

  content_back : (whole other : Element) (es : List Element) (f : Filter) → content whole es ≡ Ok f → IsFilter f → content other (content_by parameters schema (tree f) (out-Filter f)) ≡ Ok f
  unfolding first_in
  content_back whole other [] f h is = absurd cc
  content_back whole other (e ∷ rest) f h is = by (is_fes (codes "ResourceId") e) h
    where
      by : (b : Bool) → (if b then ids_in parameters schema (e ∷ rest) else content_from parameters schema kind e rest) ≡ Ok f → content other (content_by parameters schema (tree f) (out-Filter f)) ≡ Ok f
      by true h = ids_back other e rest f h
      by false h = operator_back other e rest f h is

  filter_back : (e : Element) (f : Filter) → IsFilter f → filter_of parameters schema kind e ≡ Ok f → filter_of parameters schema kind (filter_tree parameters schema kind f) ≡ Ok f
  unfolding filter_of filter_tree
  filter_back e f is h =
      let whole = if_ok (is_fes (codes "Filter") e) (no_others [] e >>= λ _. content e (out-Element e).children) (Shape (local_of e)) f h in
      let none = bind_ok (no_others [] e) (λ _. content e (out-Element e).children) f whole.1 in
      let children = content_by parameters schema (tree f) (out-Filter f) in
      rw (parent_named (codes "Filter") children (codes "Filter"), parent_others (codes "Filter") children, parent_children (codes "Filter") children)
      (content_back e (parent (codes "Filter") children) (out-Element e).children f none.2 is)

pub filters_read_back : ReadsBack
filters_read_back parameters schema kind e filter can is h = filter_back parameters schema kind can e filter is h
