-- The name of a property that a reader found, with the schema's prefix, is the name of that property.
use Rattle.std.proofs.Common.{◌≡◌, ℕ, suc, ◌+◌, ◌^◌, Bool, true, false, ◌||◌, ◌∷◌, [], ◌++◌, List, length, drop, Option, Some, None, Ok, cond, eqb, ne_eqb, refl, ap, ◌∙◌, arith}
use Rattle.std.specs.Prelude.{codes, slice_get, nat_lt, option_map}
use Rattle.std.specs.Option.{option_and_then}
use Rattle.std.specs.List.{list_any, position_from, position_or_len}
use Rattle.std.specs.Str.{bytes_eq}
use Rattle.std.proofs.lemmas.Slice.Eq.{bytes_eq-Decides}
use Rattle.std.proofs.lemmas.List.{append-nil, length-append}
use Rattle.wfs_ends.specs.Ends.{joined}
use Rattle.wfs_ends.proofs.Turns.{bind_ok, ok_is}
use Rattle.doc_tree.specs.Tree.{prefixed}
use Rattle.doc_tree.specs.declared.tree.Element.{Element}
use Rattle.feature_values.specs.Ids.{of_32_bits, is_colon, property_named, without_prefix}
use Rattle.feature_values.specs.declared.schema.ValueKind.{ValueKind}
use Rattle.feature_values.specs.declared.schema.Property.{Property}
use Rattle.feature_values.specs.declared.schema.FeatureType.{FeatureType}
use Rattle.feature_values.specs.declared.schema.Schema.{Schema}
use Rattle.fes_filter.specs.Check.{type_in, with_kind, property_in}
use Rattle.fes_docs.specs.declared.fault.FilterDocFault.{FilterDocFault}
use Rattle.fes_docs.specs.Names.{is_fes, text_of, plain}
use Rattle.fes_docs.specs.Sides.{or_unknown, property_at}
use Rattle.fes_docs.specs.Written.{name_if, property_name, reference}
use Rattle.fes_docs.proofs.Built.{leaf_named, leaf_text, leaf_plain}

pub some_is : {A : Type 0} (x y : A) → Some x ≡ Some y → x ≡ y
some_is x y e = cc

-- what a step behind a value that was found gave
pub and_then_some : {A B : Type 0} (f : A → Option B) (r : Option A) (y : B) → option_and_then f r ≡ Some y → (x : A) × (r ≡ Some x) × (f x ≡ Some y)
and_then_some f (Some x) y e = (x, refl, e)
and_then_some f None y e = absurd cc

pub map_some : {A B : Type 0} (f : A → B) (r : Option A) (y : B) → option_map f r ≡ Some y → (x : A) × (r ≡ Some x) × (f x ≡ y)
map_some f (Some x) y e = (x, refl, some_is (f x) y e)
map_some f None y e = absurd cc

-- ---- the first that passes a test

module _ {A : Type 0} (test : A → Bool) where
  -- it stands there, where the list starts at this index, and passes
  abbrev IsFound : ℕ → ℕ → List A → Type 0
  IsFound start n xs = (k : ℕ) × (x : A) × (n ≡ start + k) × (slice_get xs k ≡ Some x) × (test x ≡ true)

  found_first : (start n : ℕ) (y : A) (ys : List A) (b : Bool) → test y ≡ b → cond b (Some start) (position_from test (start + 1) ys) ≡ Some n
      → (position_from test (start + 1) ys ≡ Some n → IsFound (start + 1) n ys) → IsFound start n (y ∷ ys)
  found_first start n y ys true is e later =
      let n_is : start ≡ n = some_is start n e in
      (0, y, omega (arith, n_is), refl, is)
  found_first start n y ys false is e later =
      let rest = later e in
      (suc rest.0, rest.1, omega (arith, rest.2), rest.3, rest.4)

  found : (start n : ℕ) (xs : List A) → position_from test start xs ≡ Some n → IsFound start n xs
  found start n [] e = absurd cc
  found start n (y ∷ ys) e = found_first start n y ys (test y) refl e (found (start + 1) n ys)

  pub first_is : (n : ℕ) (xs : List A) → position_from test 0 xs ≡ Some n → (x : A) × (slice_get xs n ≡ Some x) × (test x ≡ true)
  first_is n xs e =
      let p = found 0 n xs e in
      let same : n ≡ p.0 = omega (arith, p.2) in
      (p.1, ap (slice_get xs) same ∙ p.3, p.4)

small : (b : Bool) (n m : ℕ) → cond b (Some n) None ≡ Some m → n ≡ m
small true n m e = some_is n m e
small false n m e = absurd cc

pub same_text : (xs ys : List ℕ) → bytes_eq xs ys ≡ true → xs ≡ ys
same_text xs ys h = grind (arith, bytes_eq-Decides)

-- the first with this name, by a number of 32 bits
pub first_named : {A : Type 0} (name_of : A → List ℕ) (name : List ℕ) (n : ℕ) (xs : List A) → option_and_then of_32_bits (position_from (λ x. bytes_eq (name_of x) name) 0 xs) ≡ Some n
    → (x : A) × (slice_get xs n ≡ Some x) × (name_of x ≡ name)
first_named name_of name n xs e =
    let read = and_then_some of_32_bits (position_from (λ x. bytes_eq (name_of x) name) 0 xs) n e in
    let place : read.0 ≡ n = small (nat_lt read.0 (2 ^ 32)) read.0 n read.2 in
    let one = first_is (λ x. bytes_eq (name_of x) name) n xs (read.1 ∙ ap Some place) in
    (one.0, one.1, same_text (name_of one.0) name one.2)

-- ---- what stands behind a prefix

no_first : (a b : Bool) → (a || b) ≡ false → (a ≡ false) × (b ≡ false)
no_first true b e = absurd cc
no_first false b e = (refl, e)

-- the first that passes stands behind those that do not
module _ (test : ℕ → Bool) (c : ℕ) (is : test c ≡ true) where
  pub stops_at : (front rest : List ℕ) → list_any test front ≡ false → position_or_len test (front ++ c ∷ rest) ≡ length front
  stops_at [] rest h = rw is refl
  stops_at (b ∷ bs) rest h =
      let k = no_first (test b) (list_any test bs) h in
      rw (k.0, stops_at bs rest k.1) (omega arith)

behind : (front rest : List ℕ) (c : ℕ) → drop (suc (length front)) (front ++ c ∷ rest) ≡ rest
behind [] rest c = refl
behind (b ∷ bs) rest c = behind bs rest c

longer : (front rest : List ℕ) (c : ℕ) → eqb (length front) (length (front ++ c ∷ rest)) ≡ false
longer front rest c =
    let all : length (front ++ c ∷ rest) ≡ length front + suc (length rest) = length-append front (c ∷ rest) in
    ne_eqb (length front) (length (front ++ c ∷ rest)) (λ e. omega (arith, all, e))

pub prefix_dropped : (prefix name : List ℕ) → list_any is_colon prefix ≡ false → without_prefix (prefixed prefix name) ≡ name
unfolding without_prefix prefixed joined
prefix_dropped prefix name h =
    let next : length prefix + 1 ≡ suc (length prefix) = omega arith in
    rw (append-nil name)
    (rw (stops_at is_colon 58 refl prefix name h, longer prefix name 58) (ap (λ n. drop n (prefix ++ 58 ∷ name)) next ∙ behind prefix name 58))

-- ---- properties

property_is : (of_type : FeatureType) (name : List ℕ) (i : ℕ) → property_named of_type name ≡ Some i → (p : Property) × (slice_get of_type.properties i ≡ Some p) × (p.name ≡ name)
unfolding property_named
property_is of_type name i e = first_named (λ p. p.name) name i of_type.properties e

pub property_again : (of_type : Option FeatureType) (prefix name : List ℕ) (i : ℕ) (k : ValueKind) → list_any is_colon prefix ≡ false
    → property_in of_type name ≡ Some (i, k) → property_in of_type (prefixed prefix (property_name of_type i)) ≡ Some (i, k)
property_again None prefix name i k h e = absurd cc
property_again (Some of_type) prefix name i k h e =
    let read = and_then_some (with_kind of_type) (property_named of_type (without_prefix name)) (i, k) e in
    let p = map_some (λ q. (read.0, q.kind)) (slice_get of_type.properties read.0) (i, k) read.2 in
    let place : read.0 ≡ i = ap (λ (x : ℕ × ValueKind). x.0) p.2 in
    let one = property_is of_type (without_prefix name) i (read.1 ∙ ap Some place) in
    let name_is : property_name (Some of_type) i ≡ without_prefix name = ap name_if one.1 ∙ one.2 in
    let dropped : without_prefix (prefixed prefix (property_name (Some of_type) i)) ≡ without_prefix name = prefix_dropped prefix _ h ∙ name_is in
    ap (λ n. option_and_then (with_kind of_type) (property_named of_type n)) dropped ∙ e

pub unknown_is : (name : List ℕ) (r : Option (ℕ × ValueKind)) (p : ℕ × ValueKind) → or_unknown name r ≡ Ok p → r ≡ Some p
unknown_is name None p e = absurd cc
unknown_is name (Some q) p e = ap Some (ok_is FilterDocFault q p e)

-- a ValueReference
module _ (schema : Schema) (kind : Option ℕ) (no_colon : list_any is_colon schema.prefix ≡ false) where
  pub reference_again : (e : Element) (p : ℕ × ValueKind) → property_at (type_in schema kind) e ≡ Ok p → property_at (type_in schema kind) (reference schema kind p.0) ≡ Ok p
  unfolding property_at reference
  reference_again e p h =
      let of_type = type_in schema kind in
      let read = bind_ok (plain e) (λ _. or_unknown (text_of e) (property_in of_type (text_of e))) p h in
      let found : property_in of_type (text_of e) ≡ Some p = unknown_is (text_of e) _ p read.2 in
      let name = prefixed schema.prefix (property_name of_type p.0) in
      let again : property_in of_type name ≡ Some p = property_again of_type schema.prefix (text_of e) p.0 p.1 no_colon found in
      rw (leaf_plain (codes "ValueReference") name, leaf_text (codes "ValueReference") name)
      (ap (or_unknown name) again)

  pub is_reference : (property : ℕ) (want : List ℕ) → is_fes want (reference schema kind property) ≡ bytes_eq (codes "ValueReference") want
  unfolding reference
  is_reference property want = leaf_named (codes "ValueReference") _ want
