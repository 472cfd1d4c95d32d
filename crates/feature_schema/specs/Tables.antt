-- What stands at a key of a table, and the faults of keys. A text is seen as the TOML table that it means, whose keys
-- ascend by their bytes, whatever their order in the text.
use Rattle.std.specs.Prelude.{ℕ, Bool, not, ◌&&◌, if◌then◌else◌, nat_lt, nat_le, List, [], ◌∷◌, length, find, Option, Some, None, is_some, option_and_then, Result, Ok, Err, codes}
use Rattle.std.specs.List.{list_all, list_any}
use Rattle.std.specs.Str.{bytes_eq, is_utf8}
use Rattle.toml.specs.Data.{Data, Items, no_items, item, Members, no_members, member, get_member, as_str, as_array, as_table}
use Rattle.toml.specs.Parse.{parse_document}
use Rattle.wfs_ends.specs.Read.{◌>>=◌}
use Rattle.feature_schema.specs.Texts.{is_line, is_name, is_prefix}
use Rattle.feature_schema.specs.declared.fault.SchemaFault.{SchemaFault}
use Rattle.feature_schema.specs.declared.fault.SchemaFault.TheVariants.{NotToml, Key, TooMany}

abbrev pub or_fault : {A : Type 0} → Option A → SchemaFault → Result A SchemaFault
or_fault None fault = Err fault
or_fault (Some x) fault = Ok x

-- The table that the bytes of a file mean. Which table a text means, and which texts mean none, is as the kit's `toml`
-- defines it; this project rests on that definition.
unfoldable pub table_of : List ℕ → Result Members SchemaFault
table_of bytes = if is_utf8 bytes then or_fault (parse_document bytes) NotToml else Err NotToml

abbrev pub text_of : List ℕ → Members → Option (List ℕ)
text_of key table = option_and_then as_str (get_member key table)

abbrev pub if_right : (List ℕ → Bool) → Option (List ℕ) → Option (List ℕ)
if_right test None = None
if_right test (Some text) = if test text then Some text else None

-- the text at a key, which passes a test
abbrev pub tested_at : (List ℕ → Bool) → List ℕ → Members → Result (List ℕ) SchemaFault
tested_at test key table = or_fault (if_right test (text_of key table)) (Key key)

unfoldable pub line_at : List ℕ → Members → Result (List ℕ) SchemaFault
line_at key table = tested_at is_line key table

unfoldable pub name_at : Members → Result (List ℕ) SchemaFault
name_at table = tested_at is_name (codes "name") table

unfoldable pub prefix_at : Members → Result (List ℕ) SchemaFault
prefix_at table = tested_at is_prefix (codes "prefix") table

-- the values of an array, in order
unfoldable pub values_of : Items → List Data
values_of no_items = []
values_of (item value values) = value ∷ values_of values

abbrev pub as_values : Data → Option (List Data)
as_values value = as_values_of (as_array value)
  where
    as_values_of : Option Items → Option (List Data)
    as_values_of None = None
    as_values_of (Some items) = Some (values_of items)

-- the list at a key
unfoldable pub list_at : List ℕ → Members → Result (List Data) SchemaFault
list_at key table = or_fault (option_and_then as_values (get_member key table)) (Key key)

abbrev pub is_table : Data → Bool
is_table value = is_some (as_table value)

-- at least so many values, and all of them tables
unfoldable pub are_tables : ℕ → List Data → Bool
are_tables least values = list_all is_table values && nat_le least (length values)

-- the list of tables at a key, which has at least so many
unfoldable pub tables_at : ℕ → List ℕ → Members → Result (List Data) SchemaFault
tables_at least key table = list_at key table >>= λ values. if are_tables least values then Ok values else Err (Key key)

-- a list of at most 64
unfoldable pub few : List Data → Result (Unit {0}) SchemaFault
few values = if nat_lt 64 (length values) then Err TooMany else Ok tt

-- the keys of a table, which ascend
abbrev pub keys_of : Members → List (List ℕ)
keys_of no_members = []
keys_of (member key value members) = key ∷ keys_of members

abbrev pub is_other : List (List ℕ) → List ℕ → Bool
is_other known key = not (list_any (λ k. bytes_eq k key) known)

-- the first key, by name, that is none of these
unfoldable pub unknown_of : List (List ℕ) → Members → Option (List ℕ)
unknown_of known table = find (is_other known) (keys_of table)

abbrev pub refused_by : Option (List ℕ) → Result (Unit {0}) SchemaFault
refused_by None = Ok tt
refused_by (Some key) = Err (Key key)

-- no key but these
unfoldable pub no_others : List (List ℕ) → Members → Result (Unit {0}) SchemaFault
no_others known table = refused_by (unknown_of known table)
