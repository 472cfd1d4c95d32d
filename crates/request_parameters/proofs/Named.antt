-- A type that was found by its name is one of the schema's.
use Rattle.std.proofs.Common.{◌≡◌, ℕ, ◌+◌, ◌<◌, ◌^◌, Bool, true, false, List, [], ◌∷◌, length, Option, Some, None, cond, refl, arith}
use Rattle.std.specs.Prelude.{nat_lt}
use Rattle.std.specs.Option.{option_and_then}
use Rattle.std.specs.List.{position_from}
use Rattle.std.specs.Str.{bytes_eq}
use Rattle.feature_values.specs.Ids.{of_32_bits, type_named}
use Rattle.feature_values.specs.declared.schema.Schema.{Schema}

some_is : (n m : ℕ) → Some n ≡ Some m → n ≡ m
some_is n m e = cc

module _ {A : Type 0} (test : A → Bool) where
  first_below : (start n : ℕ) (ys : List A) (b : Bool) → cond b (Some start) (position_from test (start + 1) ys) ≡ Some n
      → (position_from test (start + 1) ys ≡ Some n → n < start + 1 + length ys) → n < start + 1 + length ys
  first_below start n ys true e later =
      let is : start ≡ n = some_is start n e in
      omega (arith, is)
  first_below start n ys false e later = later e

  below : (start n : ℕ) (xs : List A) → position_from test start xs ≡ Some n → n < start + length xs
  below start n [] e = absurd cc
  below start n (y ∷ ys) e =
      let k : n < start + 1 + length ys = first_below start n ys (test y) e (below (start + 1) n ys) in
      omega (arith, k)

small : (r : Option ℕ) (bound m : ℕ) → ((n : ℕ) → r ≡ Some n → n < bound) → option_and_then of_32_bits r ≡ Some m → m < bound
small None bound m holds e = absurd cc
small (Some n) bound m holds e = by (nat_lt n (2 ^ 32)) e
  where
    by : (b : Bool) → cond b (Some n) None ≡ Some m → m < bound
    by true is =
        let same : n ≡ m = some_is n m is in
        let k : n < bound = holds n refl in
        omega (arith, same, k)
    by false is = absurd cc

pub is_type : (schema : Schema) (name : List ℕ) (kind : ℕ) → type_named schema name ≡ Some kind → kind < length schema.types
unfolding type_named
is_type schema name kind e =
    small (position_from (λ t. bytes_eq t.name name) 0 schema.types) (length schema.types) kind
    (λ n is. omega (arith, below (λ t. bytes_eq t.name name) 0 n schema.types is)) e
