-- The schema of a file keeps the rules.
use Rattle.std.proofs.Common.{◌≡◌, ℕ, ◌≤◌, ◌+◌, ◌++◌, Bool, true, false, ◌||◌, ◌&&◌, List, [], ◌∷◌, length, Option, Some, None, Result, Ok, Err, ℤ, pos, negsuc, refl, sym, ap, subst, arith, length-append}
use Rattle.std.specs.Prelude.{codes, if◌then◌else◌, nat_le, nat_lt, All, IfOk, option_and_then}
use Rattle.std.specs.List.{AllPairs, list_any}
use Rattle.std.specs.Str.{bytes_eq}
use Rattle.std.proofs.lemmas.Bool.Decides.{nat_tests}
use Rattle.std.proofs.lemmas.List.Elements.{All-nil, All-cons, All-push, All-get_or}
use Rattle.std.proofs.lemmas.List.Quantifiers.{all_pairs_push}
use Rattle.toml.specs.Data.{Data, Members, as_str, as_table, as_integer, get_member}
use Rattle.wfs_ends.specs.Read.{GivesBut, each}
use Rattle.wfs_ends.proofs.Turns.{bind_ok, if_ok, ok_is}
use Rattle.feature_values.specs.declared.schema.ValueKind.{ValueKind}
use Rattle.feature_values.specs.declared.schema.Property.{Property}
use Rattle.feature_values.specs.declared.schema.FeatureType.{FeatureType}
use Rattle.feature_values.specs.declared.schema.Schema.{Schema}
use Rattle.feature_schema.specs.declared.fault.SchemaFault.{SchemaFault}
use Rattle.feature_schema.specs.declared.fault.SchemaFault.TheVariants.{Key, Twice, TooMany, OutOfMemory}
use Rattle.feature_schema.specs.Texts.{is_line, is_name, is_prefix}
use Rattle.feature_schema.specs.Tables.{table_of, or_fault, if_right, text_of, tested_at, line_at, name_at, prefix_at, list_at, are_tables, tables_at, few, no_others}
use Rattle.feature_schema.specs.File.{kind_at, required_at, is_words, allowed, max_of, max_at, new_property, property_keys, property_step, type_keys, properties_at, new_type, type_step, srs_step, srs_at, top_keys, types_at, schema_at, schema_of}
use Rattle.feature_schema.specs.Rules.{IsLine, IsProperty, IsType, KeepsRules}

-- ---- readings that did not fail

or_ok : {A : Type 0} (r : Option A) (fault : SchemaFault) (x : A) → or_fault r fault ≡ Ok x → r ≡ Some x
or_ok None fault x h = absurd cc
or_ok (Some y) fault x h = ap Some (ok_is SchemaFault y x h)

unless_ok : {A : Type 0} (b : Bool) (fault : SchemaFault) (x y : A) → (if b then Err fault else Ok x) ≡ Ok y → (b ≡ false) × (x ≡ y)
unless_ok true fault x y h = absurd cc
unless_ok false fault x y h = (refl, ok_is SchemaFault x y h)

if_passed : (b : Bool) (x text : List ℕ) → (if b then Some x else None) ≡ Some text → (b ≡ true) × (x ≡ text)
if_passed true x text h = (refl, cc)
if_passed false x text h = absurd cc

right : (test : List ℕ → Bool) (r : Option (List ℕ)) (text : List ℕ) → if_right test r ≡ Some text → test text ≡ true
right test None text h = absurd cc
right test (Some x) text h =
    let k = if_passed (test x) x text h in
    subst (λ (t : List ℕ). test t ≡ true) k.1 k.0

tested : (test : List ℕ → Bool) (key : List ℕ) (table : Members) (text : List ℕ) → tested_at test key table ≡ Ok text → test text ≡ true
tested test key table text h = right test (text_of key table) text (or_ok _ (Key key) text h)

line_is : (key : List ℕ) (table : Members) (text : List ℕ) → line_at key table ≡ Ok text → IsLine text
unfolding line_at
line_is key table text h = tested is_line key table text h

name_is : (table : Members) (text : List ℕ) → name_at table ≡ Ok text → is_name text ≡ true
unfolding name_at
name_is table text h = tested is_name (codes "name") table text h

prefix_is : (table : Members) (text : List ℕ) → prefix_at table ≡ Ok text → is_prefix text ≡ true
unfolding prefix_at
prefix_is table text h = tested is_prefix (codes "prefix") table text h

both : (a b : Bool) → (a && b) ≡ true → (a ≡ true) × (b ≡ true)
both true b h = (refl, h)
both false b h = absurd cc

le_is : (a b : ℕ) → nat_le a b ≡ true → a ≤ b
le_is a b h = grind (arith, nat_tests)

not_less : (a b : ℕ) → nat_lt a b ≡ false → b ≤ a
not_less a b h = grind (arith, nat_tests)

-- ---- lists that grow by one at each step

-- a step adds one item, which is as it should be and differs from those before it
abbrev Adds : {A B : Type 0} → (A → Type 0) → (A → A → Type 0) → (List A → B → Result (List A) SchemaFault) → Type 0
Adds {A} {B} P Q step = (found : List A) (x : B) (more : List A) → step found x ≡ Ok more → (a : A) × (more ≡ found ++ a ∷ []) × P a × All (λ b. Q b a) found

record Grown {A : Type 0} (P : A → Type 0) (Q : A → A → Type 0) (n : ℕ) (all : List A) : Type 0 where
  each : All P all
  apart : AllPairs Q all
  count : length all ≡ n

nothing_apart : {A : Type 0} (Q : A → A → Type 0) → AllPairs Q []
nothing_apart Q i j d lt within = absurd (omega (arith, within))

grown : {A B : Type 0} (P : A → Type 0) (Q : A → A → Type 0) (step : List A → B → Result (List A) SchemaFault) → Adds P Q step → (xs : List B) (found all : List A) (n : ℕ) → Grown P Q n found → each step found xs ≡ Ok all → Grown P Q (n + length xs) all
unfolding each
grown P Q step adds [] found all n g h = subst (Grown P Q (n + 0)) (ok_is SchemaFault found all h) (record { each = g.each; apart = g.apart; count = omega (arith, g.count) })
grown P Q step adds (x ∷ xs) found all n g h =
    let s = bind_ok (step found x) _ all h in
    let a = adds found x s.0 s.1 in
    let more : Grown P Q (n + 1) s.0 = subst (Grown P Q (n + 1)) (sym a.1) (record {
      each = All-push P found a.0 g.each a.2;
      apart = all_pairs_push Q found a.0 g.apart (λ k d lt. All-get_or (λ b. Q b a.0) found k d lt a.3);
      count = omega (arith, g.count, length-append found (a.0 ∷ []));
    }) in
    let rest = grown P Q step adds xs s.0 all (n + 1) more s.2 in
    record { each = rest.each; apart = rest.apart; count = omega (arith, rest.count) }

start : {A : Type 0} (P : A → Type 0) (Q : A → A → Type 0) → Grown P Q 0 []
start P Q = record { each = All-nil P; apart = nothing_apart Q; count = refl }

any_by : {A : Type 0} (test : A → Bool) (x : A) (xs : List A) (b c : Bool) → test x ≡ b → list_any test xs ≡ c → (b || c) ≡ false
    → (list_any test xs ≡ false → All (λ x. test x ≡ false) xs) → All (λ x. test x ≡ false) (x ∷ xs)
any_by test x xs true c is rest h later = absurd cc
any_by test x xs false true is rest h later = absurd cc
any_by test x xs false false is rest h later = All-cons (λ x. test x ≡ false) x xs is (later rest)

none_so : {A : Type 0} (test : A → Bool) (xs : List A) → list_any test xs ≡ false → All (λ x. test x ≡ false) xs
none_so test [] h = All-nil (λ x. test x ≡ false)
none_so test (x ∷ xs) h = any_by test x xs (test x) (list_any test xs) refl refl h (none_so test xs)

-- ---- properties

record IsMax (n : ℕ) : Type 0 where
  some : 1 ≤ n
  few : n ≤ 4096

within : (n m : ℕ) → (if nat_le 1 n && nat_le n 4096 then Some n else None) ≡ Some m → IsMax m
within n m h = by (nat_le 1 n) (nat_le n 4096) refl refl h
  where
    by : (a b : Bool) → nat_le 1 n ≡ a → nat_le n 4096 ≡ b → (if a && b then Some n else None) ≡ Some m → IsMax m
    by true true e f h =
        let is : n ≡ m = cc in
        subst IsMax is (record { some = le_is 1 n e; few = le_is n 4096 f })
    by true false e f h = absurd cc
    by false b e f h = absurd cc

allowed_is : (number : ℤ) (m : ℕ) → allowed number ≡ Some m → IsMax m
allowed_is (pos n) m h = within n m h
allowed_is (negsuc n) m h = absurd cc

integer_is : (r : Option ℤ) (m : ℕ) → option_and_then allowed r ≡ Some m → IsMax m
integer_is None m h = absurd cc
integer_is (Some number) m h = allowed_is number m h

max_is : (kind : ValueKind) (value : Option Data) (m : ℕ) → max_of kind value ≡ Ok m → IsMax m
max_is kind None m h = subst IsMax (ok_is SchemaFault 4096 m h) (record { some = omega arith; few = omega arith })
max_is kind (Some value) m h =
    let k = if_ok (is_words kind) (or_fault (option_and_then allowed (as_integer value)) (Key (codes "max"))) (Key (codes "max")) m h in
    integer_is (as_integer value) m (or_ok _ (Key (codes "max")) m k.1)

abbrev OtherProperty : Property → Property → Type 0
OtherProperty a b = bytes_eq a.name b.name ≡ false

adds_property : Adds IsProperty OtherProperty property_step
unfolding property_step new_property max_at
adds_property found value more h =
    let table = bind_ok (or_fault (as_table value) (Key (codes "property"))) _ more h in
    let given = bind_ok (name_at table.0) _ more table.2 in
    let name = bind_ok (new_property found given.0) _ more given.2 in
    let kind = bind_ok (kind_at name.0 table.0) _ more name.2 in
    let required = bind_ok (required_at table.0) _ more kind.2 in
    let max = bind_ok (max_at kind.0 table.0) _ more required.2 in
    let none = bind_ok (no_others property_keys table.0) _ more max.2 in
    let new = unless_ok (list_any (λ p. bytes_eq p.name given.0) found) (Twice given.0) given.0 name.0 name.1 in
    let property : Property = record { name = name.0; kind = kind.0; required = required.0; max = max.0 } in
    let m = max_is kind.0 (get_member (codes "max") table.0) max.0 max.1 in (
      property,
      sym (ok_is SchemaFault (found ++ property ∷ []) more none.2),
      record { name = subst (λ (n : List ℕ). is_name n ≡ true) new.1 (name_is table.0 given.0 given.1); some = m.some; few = m.few },
      subst (λ (n : List ℕ). All (λ p. bytes_eq p.name n ≡ false) found) new.1 (none_so (λ p. bytes_eq p.name given.0) found new.0),
    )

-- ---- types

few_are : (values : List Data) (u : Unit {0}) → few values ≡ Ok u → length values ≤ 64
unfolding few
few_are values u h = not_less 64 (length values) (unless_ok (nat_lt 64 (length values)) TooMany tt u h).0

many_are : (least : ℕ) (key : List ℕ) (table : Members) (values : List Data) → tables_at least key table ≡ Ok values → least ≤ length values
unfolding tables_at are_tables
many_are least key table values h =
    let found = bind_ok (list_at key table) _ values h in
    let k = if_ok (are_tables least found.0) (Ok found.0) (Key key) values found.2 in
    let is : found.0 ≡ values = ok_is SchemaFault found.0 values k.1 in
    subst (λ (vs : List Data). least ≤ length vs) is (le_is least (length found.0) (both _ (nat_le least (length found.0)) k.0).1)

record AreProperties (properties : List Property) : Type 0 where
  all : All IsProperty properties
  few : length properties ≤ 64
  different : AllPairs OtherProperty properties

properties_are : (table : Members) (properties : List Property) → properties_at table ≡ Ok properties → AreProperties properties
unfolding properties_at
properties_are table properties h =
    let values = bind_ok (tables_at 0 (codes "property") table) _ properties h in
    let short = bind_ok (few values.0) _ properties values.2 in
    let g = grown IsProperty OtherProperty property_step adds_property values.0 [] properties 0 (start IsProperty OtherProperty) short.2 in
    let count = few_are values.0 short.0 short.1 in
    record { all = g.each; few = omega (arith, g.count, count); different = g.apart }

abbrev OtherType : FeatureType → FeatureType → Type 0
OtherType a b = bytes_eq a.name b.name ≡ false

adds_type : Adds IsType OtherType type_step
unfolding type_step new_type
adds_type found value more h =
    let table = bind_ok (or_fault (as_table value) (Key (codes "type"))) _ more h in
    let given = bind_ok (name_at table.0) _ more table.2 in
    let name = bind_ok (new_type found given.0) _ more given.2 in
    let properties = bind_ok (properties_at table.0) _ more name.2 in
    let none = bind_ok (no_others type_keys table.0) _ more properties.2 in
    let new = unless_ok (list_any (λ t. bytes_eq t.name given.0) found) (Twice given.0) given.0 name.0 name.1 in
    let of_type : FeatureType = record { name = name.0; properties = properties.0 } in
    let are = properties_are table.0 properties.0 properties.1 in (
      of_type,
      sym (ok_is SchemaFault (found ++ of_type ∷ []) more none.2),
      record { name = subst (λ (n : List ℕ). is_name n ≡ true) new.1 (name_is table.0 given.0 given.1); properties = are.all; few = are.few; different = are.different },
      subst (λ (n : List ℕ). All (λ t. bytes_eq t.name n ≡ false) found) new.1 (none_so (λ t. bytes_eq t.name given.0) found new.0),
    )

record AreTypes (types : List FeatureType) : Type 0 where
  all : All IsType types
  some : 1 ≤ length types
  few : length types ≤ 64
  different : AllPairs OtherType types

types_are : (table : Members) (types : List FeatureType) → types_at table ≡ Ok types → AreTypes types
unfolding types_at
types_are table types h =
    let values = bind_ok (tables_at 1 (codes "type") table) _ types h in
    let none = bind_ok (no_others top_keys table) _ types values.2 in
    let short = bind_ok (few values.0) _ types none.2 in
    let g = grown IsType OtherType type_step adds_type values.0 [] types 0 (start IsType OtherType) short.2 in
    let most = few_are values.0 short.0 short.1 in
    let least = many_are 1 (codes "type") table values.0 values.1 in
    record { all = g.each; some = omega (arith, g.count, least); few = omega (arith, g.count, most); different = g.apart }

-- ---- the reference system

abbrev Any : List ℕ → List ℕ → Type 0
Any a b = Unit {0}

adds_srs : Adds IsLine Any srs_step
unfolding srs_step
adds_srs found value more h =
    let text = bind_ok (or_fault (as_str value) (Key (codes "srs"))) _ more h in
    let line = if_ok (is_line text.0) (Ok (found ++ text.0 ∷ [])) (Key (codes "srs")) more text.2 in
    (text.0, sym (ok_is SchemaFault (found ++ text.0 ∷ []) more line.1), line.0, λ i d lt. tt)

record AreNames (srs : List (List ℕ)) : Type 0 where
  all : All IsLine srs
  some : 1 ≤ length srs
  few : length srs ≤ 8

srs_are : (table : Members) (srs : List (List ℕ)) → srs_at table ≡ Ok srs → AreNames srs
unfolding srs_at
srs_are table srs h =
    let values = bind_ok (list_at (codes "srs") table) _ srs h in
    let k = if_ok (nat_le 1 (length values.0) && nat_le (length values.0) 8) (each srs_step [] values.0) (Key (codes "srs")) srs values.2 in
    let g = grown IsLine Any srs_step adds_srs values.0 [] srs 0 (start IsLine Any) k.1 in
    let b = both (nat_le 1 (length values.0)) (nat_le (length values.0) 8) k.0 in
    let least = le_is 1 (length values.0) b.0 in
    let most = le_is (length values.0) 8 b.1 in
    record { all = g.each; some = omega (arith, g.count, least); few = omega (arith, g.count, most) }

-- ---- the whole

keeps : (table : Members) (schema : Schema) → schema_at table ≡ Ok schema → KeepsRules schema
unfolding schema_at
keeps table schema h =
    let title = bind_ok (line_at (codes "title") table) _ schema h in
    let address = bind_ok (line_at (codes "address") table) _ schema title.2 in
    let space = bind_ok (line_at (codes "namespace") table) _ schema address.2 in
    let prefix = bind_ok (prefix_at table) _ schema space.2 in
    let srs = bind_ok (srs_at table) _ schema prefix.2 in
    let types = bind_ok (types_at table) _ schema srs.2 in
    let names = srs_are table srs.0 srs.1 in
    let are = types_are table types.0 types.1 in
    let read : Schema = record { title = title.0; address = address.0; space = space.0; prefix = prefix.0; srs = srs.0; types = types.0 } in
    subst KeepsRules (ok_is SchemaFault read schema types.2) (record {
      title = line_is (codes "title") table title.0 title.1;
      address = line_is (codes "address") table address.0 address.1;
      space = line_is (codes "namespace") table space.0 space.1;
      prefix = prefix_is table prefix.0 prefix.1;
      srs = names.all;
      some_srs = names.some;
      few_srs = names.few;
      types = are.all;
      some_types = are.some;
      few_types = are.few;
      different = are.different;
    })

pub keeps_rules : (bytes : List ℕ) (r : Result Schema SchemaFault) → GivesBut OutOfMemory (λ s. s) r (schema_of bytes) → IfOk r KeepsRules
unfolding schema_of
keeps_rules bytes (Ok schema) h =
    let table = bind_ok (table_of bytes) schema_at schema h in
    keeps table.0 schema table.2
keeps_rules bytes (Err fault) h = tt
