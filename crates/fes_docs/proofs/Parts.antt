-- The parts of operators, and the names of operators, as they are written and read.
use Rattle.std.proofs.Common.{◌≡◌, ℕ, Bool, true, false, List, [], ◌∷◌, ◌++◌, map, Result, Ok, Err, refl, sym, ap, subst, ◌∙◌, append_assoc, arith}
use Rattle.std.specs.Prelude.{codes, if◌then◌else◌, All}
use Rattle.std.specs.List.{flat_map}
use Rattle.std.specs.Char.{IsScalar}
use Rattle.std.proofs.lemmas.List.{append-nil}
use Rattle.wfs_ends.specs.Read.{◌>>=◌, each}
use Rattle.wfs_ends.proofs.Turns.{ok_is}
use Rattle.doc_tree.specs.declared.tree.QName.{QName}
use Rattle.geom_core.specs.declared.geometry.Geometry.{Geometry}
use Rattle.gml_docs.specs.RoundTrip.{IsGeometry}
use Rattle.fes_filter.specs.declared.expr.By.{By}
use Rattle.fes_filter.specs.declared.pattern.LikePart.{LikePart}
use Rattle.fes_filter.specs.declared.filter.Filter.{Filter}
use Rattle.fes_filter.specs.declared.filter.Filter.TheVariants.{Both, Either, Not, Like, Meets, Apart, rolls-Both, rolls-Either, rolls-Not, rolls-Like, rolls-Meets, rolls-Apart}
use Rattle.fes_filter.specs.declared.filter.Filter.TheOpen.{Filter-F}
use Rattle.fes_filter.specs.declared.filter.Filter.TheFolds.{fold-roll-Filter}
use Rattle.fes_docs.specs.declared.fault.FilterDocFault.{FilterDocFault}
use Rattle.fes_docs.specs.declared.operator.Predicate.TheVariants as Test
use Rattle.fes_docs.specs.declared.operator.Operator.{Operator}
use Rattle.fes_docs.specs.Names.{fes_space}
use Rattle.fes_docs.specs.Operators.{comparison_named, predicate_named, operator_named, operator_in}
use Rattle.fes_docs.specs.Filters.{Reading, next_operator}
use Rattle.fes_docs.specs.Written.{comparison_name}
use Rattle.fes_docs.specs.RoundTrip.{part_characters, characters_step, characters, shapes_step, shapes, IsFilter}
use Rattle.fes_docs.proofs.Likes.{all_first}

-- ---- readings, one after the other

-- what is read where not too few are found
pub enough : {A : Type 0} (b : Bool) (fault : FilterDocFault) (x y : A) → (if b then Err fault else Ok x) ≡ Ok y → (b ≡ false) × (x ≡ y)
enough true fault x y e = absurd cc
enough false fault x y e = (refl, ok_is FilterDocFault x y e)

abbrev pub through : List Reading → ℕ → Result (List Filter × ℕ) FilterDocFault
through [] n = Ok ([], n)
through (r ∷ rs) n = r n >>= λ x. through rs x.1 >>= λ y. Ok (x.0 ∷ y.0, y.1)

abbrev behind : List Filter → Result (List Filter × ℕ) FilterDocFault → Result (List Filter × ℕ) FilterDocFault
behind acc r = r >>= λ y. Ok (acc ++ y.0, y.1)

joined_behind : (acc : List Filter) (x : Filter) (r : Result (List Filter × ℕ) FilterDocFault) → behind (acc ++ x ∷ []) r ≡ behind acc (r >>= λ y. Ok (x ∷ y.0, y.1))
joined_behind acc x (Ok y) = ap (λ (fs : List Filter). Ok (fs, y.1)) (append_assoc acc (x ∷ []) y.0)
joined_behind acc x (Err e) = refl

through_by : (acc : List Filter) (rs : List Reading) (x : Result (Filter × ℕ) FilterDocFault)
    → ((more : List Filter) (n : ℕ) → each next_operator (more, n) rs ≡ behind more (through rs n))
    → (x >>= (λ more. Ok (acc ++ more.0 ∷ [], more.1)) >>= λ more. each next_operator more rs) ≡ behind acc (x >>= λ x. through rs x.1 >>= λ y. Ok (x.0 ∷ y.0, y.1))
through_by acc rs (Ok x) later = later (acc ++ x.0 ∷ []) x.1 ∙ joined_behind acc x.0 (through rs x.1)
through_by acc rs (Err e) later = refl

each_through : (rs : List Reading) (acc : List Filter) (n : ℕ) → each next_operator (acc, n) rs ≡ behind acc (through rs n)
unfolding each
each_through [] acc n = ap (λ (fs : List Filter). Ok (fs, n)) (sym (append-nil acc))
each_through (r ∷ rs) acc n = through_by acc rs (r n) (each_through rs)

behind_none : (r : Result (List Filter × ℕ) FilterDocFault) → behind [] r ≡ r
behind_none (Ok y) = refl
behind_none (Err e) = refl

pub all_through : (rs : List Reading) (n : ℕ) → each next_operator ([], n) rs ≡ through rs n
all_through rs n = each_through rs [] n ∙ behind_none (through rs n)

-- ---- the parts of a filter are filters

abbrev pub AreFilters : List Filter → Type 0
AreFilters [] = Unit {0}
AreFilters (f ∷ fs) = IsFilter f × AreFilters fs

are_filters : (fs : List Filter) → All IsScalar (flat_map (λ part. part) (map characters fs)) → All IsGeometry (flat_map (λ part. part) (map shapes fs)) → AreFilters fs
are_filters [] cs gs = tt
are_filters (f ∷ fs) cs gs =
    let c = all_first IsScalar (characters f) (flat_map (λ part. part) (map characters fs)) cs in
    let g = all_first IsGeometry (shapes f) (flat_map (λ part. part) (map shapes fs)) gs in
    (record { characters = c.0; shapes = g.0 }, are_filters fs c.1 g.1)

pub both_parts : (fs : List Filter) → IsFilter (Both fs) → AreFilters fs
both_parts fs h = are_filters fs
    (subst (All IsScalar) (ap characters (sym (rolls-Both fs)) ∙ fold-roll-Filter (List ℕ) characters_step (Filter-F.Both fs)) h.characters)
    (subst (All IsGeometry) (ap shapes (sym (rolls-Both fs)) ∙ fold-roll-Filter (List Geometry) shapes_step (Filter-F.Both fs)) h.shapes)

pub either_parts : (fs : List Filter) → IsFilter (Either fs) → AreFilters fs
either_parts fs h = are_filters fs
    (subst (All IsScalar) (ap characters (sym (rolls-Either fs)) ∙ fold-roll-Filter (List ℕ) characters_step (Filter-F.Either fs)) h.characters)
    (subst (All IsGeometry) (ap shapes (sym (rolls-Either fs)) ∙ fold-roll-Filter (List Geometry) shapes_step (Filter-F.Either fs)) h.shapes)

pub not_part : (f : Filter) → IsFilter (Not f) → IsFilter f
not_part f h = record {
  characters = subst (All IsScalar) (ap characters (sym (rolls-Not f)) ∙ fold-roll-Filter (List ℕ) characters_step (Filter-F.Not f)) h.characters;
  shapes = subst (All IsGeometry) (ap shapes (sym (rolls-Not f)) ∙ fold-roll-Filter (List Geometry) shapes_step (Filter-F.Not f)) h.shapes;
}

pub like_characters : (i : ℕ) (parts : List LikePart) → IsFilter (Like i parts) → All IsScalar (flat_map part_characters parts)
like_characters i parts h = subst (All IsScalar) (ap characters (sym (rolls-Like i parts)) ∙ fold-roll-Filter (List ℕ) characters_step (Filter-F.Like i parts)) h.characters

only_one : (g : Geometry) → All IsGeometry (g ∷ []) → IsGeometry g
only_one g h = h 0 g (omega arith)

pub meets_shape : (i : ℕ) (g : Geometry) → IsFilter (Meets i g) → IsGeometry g
meets_shape i g h = only_one g (subst (All IsGeometry) (ap shapes (sym (rolls-Meets i g)) ∙ fold-roll-Filter (List Geometry) shapes_step (Filter-F.Meets i g)) h.shapes)

pub apart_shape : (i : ℕ) (g : Geometry) → IsFilter (Apart i g) → IsGeometry g
apart_shape i g h = only_one g (subst (All IsGeometry) (ap shapes (sym (rolls-Apart i g)) ∙ fold-roll-Filter (List Geometry) shapes_step (Filter-F.Apart i g)) h.shapes)

-- ---- names

pub compare_named : (by : By) → operator_in (record { space = fes_space; local = comparison_name by }) ≡ Ok (Operator.Predicate (Test.Compare by))
unfolding operator_in operator_named predicate_named comparison_named
compare_named By.Equal = refl
compare_named By.NotEqual = refl
compare_named By.Less = refl
compare_named By.Greater = refl
compare_named By.LessEqual = refl
compare_named By.GreaterEqual = refl

abbrev pub fes : List ℕ → QName
fes local = record { space = fes_space; local = local }

abbrev pub Names : List ℕ → Operator → Type 0
Names local operator = operator_in (fes local) ≡ Ok operator

pub and_named : Names (codes "And") Operator.And
unfolding operator_in operator_named
and_named = refl

pub or_named : Names (codes "Or") Operator.Or
unfolding operator_in operator_named
or_named = refl

pub not_named : Names (codes "Not") Operator.Not
unfolding operator_in operator_named
not_named = refl

pub like_named : Names (codes "PropertyIsLike") (Operator.Predicate Test.Like)
unfolding operator_in operator_named predicate_named
like_named = refl

pub null_named : Names (codes "PropertyIsNull") (Operator.Predicate Test.Null)
unfolding operator_in operator_named predicate_named
null_named = refl

pub between_named : Names (codes "PropertyIsBetween") (Operator.Predicate Test.Between)
unfolding operator_in operator_named predicate_named
between_named = refl

pub box_named : Names (codes "BBOX") (Operator.Predicate Test.Bbox)
unfolding operator_in operator_named predicate_named
box_named = refl

pub meets_named : Names (codes "Intersects") (Operator.Predicate Test.Intersects)
unfolding operator_in operator_named predicate_named
meets_named = refl

pub apart_named : Names (codes "Disjoint") (Operator.Predicate Test.Disjoint)
unfolding operator_in operator_named predicate_named
apart_named = refl

pub id_named_so : Names (codes "ResourceId") (Operator.Predicate Test.ResourceId)
unfolding operator_in operator_named predicate_named
id_named_so = refl
