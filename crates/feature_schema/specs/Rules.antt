-- The rules that the schema of each file keeps, on its texts, its names and its numbers.
use Rattle.std.specs.Prelude.{◌≡◌, ℕ, ◌≤◌, true, false, List, length, All}
use Rattle.std.specs.List.{AllPairs}
use Rattle.std.specs.Str.{bytes_eq}
use Rattle.feature_values.specs.declared.schema.Property.{Property}
use Rattle.feature_values.specs.declared.schema.FeatureType.{FeatureType}
use Rattle.feature_values.specs.declared.schema.Schema.{Schema}
use Rattle.feature_schema.specs.Texts.{is_line, is_name, is_prefix}

abbrev pub IsLine : List ℕ → Type 0
IsLine text = is_line text ≡ true

-- a property: it has a name, and a text of it has 1 to 4,096 characters at most
pub record IsProperty (property : Property) : Type 0 where
  pub name : is_name property.name ≡ true
  pub some : 1 ≤ property.max
  pub few : property.max ≤ 4096

-- a feature type: it has a name, and at most 64 properties, whose names differ
pub record IsType (of_type : FeatureType) : Type 0 where
  pub name : is_name of_type.name ≡ true
  pub properties : All IsProperty of_type.properties
  pub few : length of_type.properties ≤ 64
  pub different : AllPairs (λ a b. bytes_eq a.name b.name ≡ false) of_type.properties

-- a schema: it has a line for a title, an address and a namespace, a prefix that is free, 1 to 8 lines that name the reference
-- system, and 1 to 64 types, whose names differ
pub record KeepsRules (schema : Schema) : Type 0 where
  pub title : IsLine schema.title
  pub address : IsLine schema.address
  pub space : IsLine schema.space
  pub prefix : is_prefix schema.prefix ≡ true
  pub srs : All IsLine schema.srs
  pub some_srs : 1 ≤ length schema.srs
  pub few_srs : length schema.srs ≤ 8
  pub types : All IsType schema.types
  pub some_types : 1 ≤ length schema.types
  pub few_types : length schema.types ≤ 64
  pub different : AllPairs (λ a b. bytes_eq a.name b.name ≡ false) schema.types
