-- The schema that a file means, or what is wrong first, in the order of judging: the form of the file; the top keys; top
-- keys that are none; the count of the types; then each type, and in it each property, in order.
use Rattle.std.specs.Prelude.{ℕ, ℤ, pos, Bool, true, false, ◌&&◌, if◌then◌else◌, nat_le, List, [], ◌∷◌, ◌++◌, length, Option, Some, None, option_and_then, Result, Ok, Err, codes}
use Rattle.std.specs.List.{list_any}
use Rattle.std.specs.Str.{bytes_eq}
use Rattle.toml.specs.Data.{Data, Members, get_member, as_str, as_table, as_bool, as_integer}
use Rattle.wfs_ends.specs.Read.{◌>>=◌, each}
use Rattle.feature_values.specs.declared.schema.ValueKind.{ValueKind}
use Rattle.feature_values.specs.declared.schema.ValueKind.TheVariants.{Words, Whole, Truth, Point, Line, Polygon}
use Rattle.feature_values.specs.declared.schema.Property.{Property}
use Rattle.feature_values.specs.declared.schema.FeatureType.{FeatureType}
use Rattle.feature_values.specs.declared.schema.Schema.{Schema}
use Rattle.feature_schema.specs.Texts.{is_line}
use Rattle.feature_schema.specs.Tables.{or_fault, table_of, text_of, line_at, name_at, prefix_at, list_at, tables_at, few, no_others}
use Rattle.feature_schema.specs.declared.fault.SchemaFault.{SchemaFault}
use Rattle.feature_schema.specs.declared.fault.SchemaFault.TheVariants.{Key, Kind, Twice}

-- ---- one property

-- the kind of a word
unfoldable pub kind_named : List ℕ → Option ValueKind
kind_named text =
    if bytes_eq text (codes "text") then Some Words else
    (if bytes_eq text (codes "integer") then Some Whole else
    (if bytes_eq text (codes "boolean") then Some Truth else
    (if bytes_eq text (codes "point") then Some Point else
    (if bytes_eq text (codes "line") then Some Line else
    (if bytes_eq text (codes "polygon") then Some Polygon else None)))))

-- the kind of a property of this name; an unknown one is named by the property
unfoldable pub kind_at : List ℕ → Members → Result ValueKind SchemaFault
kind_at name table = or_fault (text_of (codes "kind") table) (Key (codes "kind")) >>= λ text. or_fault (kind_named text) (Kind name)

abbrev pub flag_of : Option Data → Result Bool SchemaFault
flag_of None = Ok false
flag_of (Some value) = or_fault (as_bool value) (Key (codes "required"))

-- whether a value is required: false where nothing is said
unfoldable pub required_at : Members → Result Bool SchemaFault
required_at table = flag_of (get_member (codes "required") table)

abbrev pub is_words : ValueKind → Bool
is_words Words = true
is_words kind = false

-- a number of characters, from 1 to 4,096
abbrev pub allowed : ℤ → Option ℕ
allowed (pos n) = if nat_le 1 n && nat_le n 4096 then Some n else None
allowed number = None

abbrev pub max_of : ValueKind → Option Data → Result ℕ SchemaFault
max_of kind None = Ok 4096
max_of kind (Some value) = if is_words kind then or_fault (option_and_then allowed (as_integer value)) (Key (codes "max")) else Err (Key (codes "max"))

-- the greatest number of characters: 4,096 where nothing is said, and said of texts alone
unfoldable pub max_at : ValueKind → Members → Result ℕ SchemaFault
max_at kind table = max_of kind (get_member (codes "max") table)

-- a name that none of these has
unfoldable pub new_property : List Property → List ℕ → Result (List ℕ) SchemaFault
new_property found name = if list_any (λ p. bytes_eq p.name name) found then Err (Twice name) else Ok name

abbrev pub property_keys : List (List ℕ)
property_keys = codes "name" ∷ codes "kind" ∷ codes "required" ∷ codes "max" ∷ []

-- the properties so far, with one more
unfoldable pub property_step : List Property → Data → Result (List Property) SchemaFault
property_step found value = do
  table ← or_fault (as_table value) (Key (codes "property"))
  given ← name_at table
  name ← new_property found given
  kind ← kind_at name table
  required ← required_at table
  max ← max_at kind table
  _ ← no_others property_keys table
  Ok (found ++ record { name = name; kind = kind; required = required; max = max } ∷ [])

-- ---- one type

-- a name that none of these has
unfoldable pub new_type : List FeatureType → List ℕ → Result (List ℕ) SchemaFault
new_type found name = if list_any (λ t. bytes_eq t.name name) found then Err (Twice name) else Ok name

-- the properties of a type
unfoldable pub properties_at : Members → Result (List Property) SchemaFault
properties_at table = do
  values ← tables_at 0 (codes "property") table
  _ ← few values
  each property_step [] values

abbrev pub type_keys : List (List ℕ)
type_keys = codes "name" ∷ codes "property" ∷ []

-- the types so far, with one more
unfoldable pub type_step : List FeatureType → Data → Result (List FeatureType) SchemaFault
type_step found value = do
  table ← or_fault (as_table value) (Key (codes "type"))
  given ← name_at table
  name ← new_type found given
  properties ← properties_at table
  _ ← no_others type_keys table
  Ok (found ++ record { name = name; properties = properties } ∷ [])

-- ---- the file

-- the names of the reference system so far, with one more
unfoldable pub srs_step : List (List ℕ) → Data → Result (List (List ℕ)) SchemaFault
srs_step found value = or_fault (as_str value) (Key (codes "srs")) >>= λ text. if is_line text then Ok (found ++ text ∷ []) else Err (Key (codes "srs"))

-- the names of the reference system, 1 to 8
unfoldable pub srs_at : Members → Result (List (List ℕ)) SchemaFault
srs_at table = list_at (codes "srs") table >>= λ values. if nat_le 1 (length values) && nat_le (length values) 8 then each srs_step [] values else Err (Key (codes "srs"))

abbrev pub top_keys : List (List ℕ)
top_keys = codes "title" ∷ codes "address" ∷ codes "namespace" ∷ codes "prefix" ∷ codes "srs" ∷ codes "type" ∷ []

-- the types of a file, behind its other keys
unfoldable pub types_at : Members → Result (List FeatureType) SchemaFault
types_at table = do
  values ← tables_at 1 (codes "type") table
  _ ← no_others top_keys table
  _ ← few values
  each type_step [] values

-- the schema of a table
unfoldable pub schema_at : Members → Result Schema SchemaFault
schema_at table = do
  title ← line_at (codes "title") table
  address ← line_at (codes "address") table
  space ← line_at (codes "namespace") table
  prefix ← prefix_at table
  srs ← srs_at table
  types ← types_at table
  Ok (record { title = title; address = address; space = space; prefix = prefix; srs = srs; types = types })

-- the schema of a file
unfoldable pub schema_of : List ℕ → Result Schema SchemaFault
schema_of bytes = table_of bytes >>= schema_at
