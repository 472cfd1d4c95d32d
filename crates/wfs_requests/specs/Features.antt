-- Features that come in (OGC 09-025r2, section 15.2.4; GML 3.2.1, OGC 07-036, section 9.3): an element of a type of the
-- schema, with an element for each property in any order.
use Rattle.std.specs.Prelude.{ℕ, Bool, true, false, ◌&&◌, ◌||◌, not, if◌then◌else◌, List, [], ◌∷◌, map, codes, slice_get, slice_set, get_or, Option, Some, None, Ok, Err}
use Rattle.std.specs.Str.{bytes_eq}
use Rattle.wfs_ends.specs.Read.{◌>>=◌, each}
use Rattle.doc_tree.specs.declared.tree.Element.{Element, out-Element}
use Rattle.doc_tree.specs.Attributes.{value_at}
use Rattle.gml_docs.specs.Elements.{is_gml}
use Rattle.feature_values.specs.declared.schema.Schema.{Schema}
use Rattle.feature_values.specs.declared.schema.FeatureType.{FeatureType}
use Rattle.feature_values.specs.declared.schema.Property.{Property}
use Rattle.feature_values.specs.declared.value.Value.{Value}
use Rattle.feature_values.specs.declared.value.Value.TheVariants.{Null}
use Rattle.feature_values.specs.declared.feature.Rid.{Rid}
use Rattle.feature_values.specs.declared.feature.Feature.{Feature}
use Rattle.feature_values.specs.Ids.{type_named, property_named}
use Rattle.wfs_model.specs.declared.fault.AskFault.{AskFault}
use Rattle.wfs_model.specs.Terms.{refused}
use Rattle.request_parameters.specs.Said.{Ask}
use Rattle.request_parameters.specs.Elements.{local_of, no_others}
use Rattle.wfs_requests.specs.Values.{unfit, content_of, null_of, is_empty}

-- ---- one property

-- the namespace of attributes for instances of XML Schema
abbrev pub instance_space : List ℕ
instance_space = codes "http://www.w3.org/2001/XMLSchema-instance"

abbrev pub is_true : Option (List ℕ) → Bool
is_true None = false
is_true (Some value) = bytes_eq value (codes "true") || bytes_eq value (codes "1")

-- an element without content that says that it is null (XML Schema Part 1, 2.6.2)
unfoldable pub is_nil : Element → Bool
is_nil e = is_true (value_at instance_space (codes "nil") (out-Element e).attributes) && is_empty e

-- the value of the element of a property, which has no attributes in no namespace
unfoldable pub value_of : List (List ℕ) → Property → Element → Ask Value
value_of srs property e = do
  _ ← no_others [] e
  if is_nil e then null_of property else content_of srs property e

-- ---- a feature

-- what was read so far of a feature, for each property of its type: whether there was an element of it, and the value
pub record Given : Type 0 where
  pub met : List Bool
  pub values : List Value

abbrev pub so_far : List Bool → List Value → Given
so_far met values = record { met = met; values = values }

-- nothing so far
abbrev pub nothing : FeatureType → Given
nothing of_type = so_far (map (λ p. false) of_type.properties) (map (λ p. Null) of_type.properties)

-- the place among the properties of a type of the one that an element stands for
unfoldable pub place_of : Schema → FeatureType → Element → Option ℕ
place_of schema of_type e =
    if bytes_eq (out-Element e).name.space schema.space then property_named of_type (local_of e) else None

-- an element that no feature of the type has there
abbrev pub stray : Element → AskFault
stray e = refused 14 (local_of e)

-- what was read so far, with the value of a property at its place
abbrev pub with_value : List (List ℕ) → Given → ℕ → Element → Option Property → Ask Given
with_value srs given place e None = Err (stray e)
with_value srs given place e (Some property) =
    if get_or given.met place true then Err (stray e) else
    (value_of srs property e >>= λ value. Ok (so_far (slice_set given.met place true) (slice_set given.values place value)))

abbrev pub with_element : Schema → FeatureType → Given → Element → Option ℕ → Ask Given
with_element schema of_type given e None = Err (stray e)
with_element schema of_type given e (Some place) = with_value schema.srs given place e (slice_get of_type.properties place)

-- What was read so far, with one element more: of a property of the type, which comes at most once. A boundedBy of GML is
-- passed over.
unfoldable pub next_value : Schema → FeatureType → Given → Element → Ask Given
next_value schema of_type given e =
    if is_gml (codes "boundedBy") e then Ok given else with_element schema of_type given e (place_of schema of_type e)

-- a required property was met
unfoldable pub one_met : Property → Bool → Ask (Unit {0})
one_met property met = if property.required && not met then Err (unfit property) else Ok tt

-- each required property was met, or the first that was not is refused
unfoldable pub all_met : List Property → List Bool → Ask (Unit {0})
all_met (property ∷ properties) (met ∷ more) = one_met property met >>= λ _. all_met properties more
all_met properties met = Ok tt

-- the values of a feature of this type, in the order of its properties
unfoldable pub values_of : Schema → FeatureType → Element → Ask (List Value)
values_of schema of_type e = do
  _ ← no_others [] e
  given ← each (next_value schema of_type) (nothing of_type) (out-Element e).children
  _ ← all_met of_type.properties given.met
  Ok given.values

-- the number of the type that an element stands for
unfoldable pub kind_of : Schema → Element → Option ℕ
kind_of schema e = if bytes_eq (out-Element e).name.space schema.space then type_named schema (local_of e) else None

-- a feature that has no number yet
abbrev pub numberless : ℕ → List Value → Feature
numberless kind values = let id : Rid = record { kind = kind; number = 0 } in record { id = id; values = values }

abbrev pub feature_of_type : Schema → ℕ → Element → Option FeatureType → Ask Feature
feature_of_type schema kind e None = Err (stray e)
feature_of_type schema kind e (Some of_type) = values_of schema of_type e >>= λ values. Ok (numberless kind values)

abbrev pub feature_of_kind : Schema → Element → Option ℕ → Ask Feature
feature_of_kind schema e None = Err (stray e)
feature_of_kind schema e (Some kind) = feature_of_type schema kind e (slice_get schema.types kind)

-- the feature of an element of the schema's namespace whose name is a type's
unfoldable pub feature_of : Schema → Element → Ask Feature
feature_of schema e = feature_of_kind schema e (kind_of schema e)
