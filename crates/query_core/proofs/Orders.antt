-- The order of features is total: of any two one is first, or they are equal, and this does not depend on others.
use Rattle.std.proofs.Common.{◌≡◌, ℕ, Bool, true, false, List, [], ◌∷◌, ℤ, pos, Some, None, refl, sym, ap, ◌∙◌}
use Rattle.std.specs.Cmp.{IsTotalOrder}
use Rattle.std.specs.Cmp.Lexicographic.{slice_cmp}
use Rattle.std.specs.declared.cmp.Ordering.{Ordering}
use Rattle.std.specs.declared.cmp.Ordering.TheVariants.{Less, Equal, Greater}
use Rattle.std.specs.Ordering.{ordering_reverse, ordering_then, nat_cmp, int_cmp, bool_cmp, on, then_cmp, flip_args}
use Rattle.std.proofs.lemmas.Cmp.{nat_cmp_total, int_cmp_total, nat_list_cmp_total, on_total, then_total, back_total}
use Rattle.feature_values.specs.declared.value.Value.{Value}
use Rattle.feature_values.specs.declared.value.Value.TheVariants.{Null, Words, Whole, Truth, Shape}
use Rattle.feature_values.specs.declared.feature.Feature.{Feature}
use Rattle.fes_filter.specs.declared.query.SortKey.{SortKey}
use Rattle.fes_filter.specs.Truth.{property_of}
use Rattle.feature_values.specs.Order.{order_of}
use Rattle.query_core.specs.Keyed.{Pair, by_way, pair_order}
use Rattle.query_core.specs.Sorting.{kind_place, value_order, or_equal, or_null, key_order, rid_order, feature_order}

-- an order that answers as a total one is total
pub total_as : {K : Type 0} (R S : K → K → Ordering) → ((x y : K) → R x y ≡ S x y) → IsTotalOrder S → IsTotalOrder R
total_as R S same o = record {
  antisymm = λ x y. same x y ∙ o.antisymm x y ∙ ap ordering_reverse (sym (same y x));
  trans = λ x y z a b. same x z ∙ o.trans x y z (sym (same x y) ∙ a) (sym (same y z) ∙ b);
  congr = λ x y z a. same x z ∙ o.congr x y z (sym (same x y) ∙ a) ∙ sym (same y z);
}

-- ---- values

bool_back : (x y : Bool) → bool_cmp x y ≡ ordering_reverse (bool_cmp y x)
bool_back false false = refl
bool_back false true = refl
bool_back true false = refl
bool_back true true = refl

bool_trans : (x y z : Bool) → bool_cmp x y ≡ Less → bool_cmp y z ≡ Less → bool_cmp x z ≡ Less
bool_trans false false z a b = b
bool_trans false true false a b = cc
bool_trans false true true a b = refl
bool_trans true false z a b = cc
bool_trans true true z a b = b

bool_congr : (x y z : Bool) → bool_cmp x y ≡ Equal → bool_cmp x z ≡ bool_cmp y z
bool_congr false false z a = refl
bool_congr false true z a = cc
bool_congr true false z a = cc
bool_congr true true z a = refl

bool_cmp_total : IsTotalOrder bool_cmp
bool_cmp_total = record { antisymm = bool_back; trans = bool_trans; congr = bool_congr }

words_of : Value → List ℕ
words_of (Words text) = text
words_of value = []

whole_of : Value → ℤ
whole_of (Whole number) = number
whole_of value = pos 0

truth_in : Value → Bool
truth_in (Truth truth) = truth
truth_in value = false

by_parts : Value → Value → Ordering
by_parts = then_cmp (on kind_place nat_cmp) (then_cmp (on words_of (slice_cmp nat_cmp)) (then_cmp (on whole_of int_cmp) (on truth_in bool_cmp)))

then_equal : (o : Ordering) → o ≡ ordering_then o Equal
then_equal Less = refl
then_equal Equal = refl
then_equal Greater = refl

as_parts : (a b : Value) → value_order a b ≡ by_parts a b
unfolding value_order by_parts words_of whole_of truth_in
as_parts Null Null = refl
as_parts Null (Words b) = refl
as_parts Null (Whole b) = refl
as_parts Null (Truth b) = refl
as_parts Null (Shape b) = refl
as_parts (Words a) Null = refl
as_parts (Words a) (Words b) = then_equal (slice_cmp nat_cmp a b)
as_parts (Words a) (Whole b) = refl
as_parts (Words a) (Truth b) = refl
as_parts (Words a) (Shape b) = refl
as_parts (Whole a) Null = refl
as_parts (Whole a) (Words b) = refl
as_parts (Whole a) (Whole b) = then_equal (int_cmp a b)
as_parts (Whole a) (Truth b) = refl
as_parts (Whole a) (Shape b) = refl
as_parts (Truth a) Null = refl
as_parts (Truth a) (Words b) = refl
as_parts (Truth a) (Whole b) = refl
as_parts (Truth a) (Truth b) = refl
as_parts (Truth a) (Shape b) = refl
as_parts (Shape a) Null = refl
as_parts (Shape a) (Words b) = refl
as_parts (Shape a) (Whole b) = refl
as_parts (Shape a) (Truth b) = refl
as_parts (Shape a) (Shape b) = refl

value_total : IsTotalOrder value_order
unfolding by_parts
value_total =
    total_as value_order by_parts as_parts
    (then_total (on_total kind_place nat_cmp_total) (then_total (on_total words_of nat_list_cmp_total) (then_total (on_total whole_of int_cmp_total) (on_total truth_in bool_cmp_total))))

-- ---- values of one kind, and of two

some_same : {X : Type 0} (x y : X) → Some x ≡ Some y → x ≡ y
some_same x y is = cc

-- an order of two values of one kind is their order
pub one_kind : (a b : Value) (o : Ordering) → Some o ≡ order_of a b → o ≡ value_order a b
unfolding value_order
one_kind (Words a) (Words b) o is = some_same o (slice_cmp nat_cmp a b) is
one_kind (Whole a) (Whole b) o is = some_same o (int_cmp a b) is
one_kind (Truth a) (Truth b) o is = some_same o (bool_cmp a b) is
one_kind Null b o is = cc
one_kind (Shape a) b o is = cc
one_kind (Words a) Null o is = cc
one_kind (Words a) (Whole b) o is = cc
one_kind (Words a) (Truth b) o is = cc
one_kind (Words a) (Shape b) o is = cc
one_kind (Whole a) Null o is = cc
one_kind (Whole a) (Words b) o is = cc
one_kind (Whole a) (Truth b) o is = cc
one_kind (Whole a) (Shape b) o is = cc
one_kind (Truth a) Null o is = cc
one_kind (Truth a) (Words b) o is = cc
one_kind (Truth a) (Whole b) o is = cc
one_kind (Truth a) (Shape b) o is = cc

-- where two values have none, their kinds stand to each other as they do
pub two_kinds : (a b : Value) → None ≡ order_of a b → nat_cmp (kind_place a) (kind_place b) ≡ value_order a b
unfolding value_order
two_kinds a b is = then_equal (nat_cmp (kind_place a) (kind_place b)) ∙ ap (λ o. ordering_then (nat_cmp (kind_place a) (kind_place b)) (or_equal o)) is

-- ---- features

value_at : SortKey → Feature → Value
value_at key f = or_null (property_of f key.property)

ascending : SortKey → Feature → Feature → Ordering
ascending key = on (value_at key) value_order

ascending_total : (key : SortKey) → IsTotalOrder (ascending key)
unfolding ascending
ascending_total key = on_total (value_at key) value_total

-- an order, by whether it is to descend
way_total : {K : Type 0} (R : K → K → Ordering) (descending : Bool) → IsTotalOrder R → IsTotalOrder (λ a b. by_way descending (R a b))
way_total R false o = o
way_total R true o = total_as (λ a b. ordering_reverse (R a b)) (flip_args R) (λ a b. sym (o.antisymm b a)) (back_total o)

key_total : (key : SortKey) → IsTotalOrder (key_order key)
unfolding key_order ascending value_at
key_total key = total_as (key_order key) (λ a b. by_way key.descending (ascending key a b)) (λ a b. refl) (way_total (ascending key) key.descending (ascending_total key))

pub rid_total : IsTotalOrder rid_order
unfolding rid_order
rid_total = then_total (on_total (λ id. id.kind) nat_cmp_total) (on_total (λ id. id.number) nat_cmp_total)

pub feature_total : (keys : List SortKey) → IsTotalOrder (feature_order keys)
unfolding feature_order
feature_total [] = on_total (λ f. f.id) rid_total
feature_total (key ∷ keys) = then_total (key_total key) (feature_total keys)

-- features beside the values by which they are sorted first
pub pair_total : (keys : List SortKey) → IsTotalOrder (pair_order keys)
unfolding pair_order
pair_total [] = on_total (λ (p : Pair). p.1.id) rid_total
pair_total (key ∷ keys) =
    then_total (way_total (on (λ (p : Pair). p.0) value_order) key.descending (on_total (λ (p : Pair). p.0) value_total)) (on_total (λ (p : Pair). p.1) (feature_total keys))
