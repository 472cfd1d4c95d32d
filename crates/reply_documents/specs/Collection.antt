-- A collection of features, and one of values of a property (OGC 09-025r2, sections 11.3 and 10.3).
use Rattle.std.specs.Prelude.{ℕ, true, ◌==◌, if◌then◌else◌, List, [], ◌∷◌, length, codes, decimal, Option, Some, None, slice_get}
use Rattle.std.specs.List.{flat_map}
use Rattle.wfs_ends.specs.Ends.{joined}
use Rattle.doc_tree.specs.Escape.{escaped}
use Rattle.feature_values.specs.declared.schema.FeatureType.{FeatureType}
use Rattle.feature_values.specs.declared.schema.Schema.{Schema}
use Rattle.feature_values.specs.declared.feature.Feature.{Feature}
use Rattle.civil_time.specs.Civil.{moment_text}
use Rattle.feature_values.specs.declared.schema.Property.{Property}
use Rattle.feature_values.specs.declared.value.Value.{Value}
use Rattle.lock_table.specs.declared.id.LockId.{LockId}
use Rattle.reply_documents.specs.Features.{feature_text, property_text, type_of}
use Rattle.reply_documents.specs.Locks.{lock_text}

-- ---- what both have

-- the start of a root of this name, with the namespaces
unfoldable pub declared_text : List ℕ → Schema → List ℕ
declared_text root schema = joined (
    codes "<?xml version=\"1.0\" encoding=\"UTF-8\"?><" ∷ root
    ∷ codes " xmlns:wfs=\"http://www.opengis.net/wfs/2.0\" xmlns:gml=\"http://www.opengis.net/gml/3.2\" xmlns:" ∷ schema.prefix ∷ codes "=\"" ∷ escaped true schema.space ∷ codes "\"" ∷ [])

-- when the answer was made, how many members were found, and how many of them stand here
unfoldable pub counted_text : ℕ → ℕ → ℕ → List ℕ
counted_text moment matched returned = joined (
    codes " timeStamp=\"" ∷ moment_text moment ∷ codes "\" numberMatched=\"" ∷ decimal matched
    ∷ codes "\" numberReturned=\"" ∷ decimal returned ∷ codes "\"" ∷ [])

unfoldable pub some_link_text : List ℕ → List ℕ → List ℕ
some_link_text start link = joined (start ∷ escaped true link ∷ codes "\"" ∷ [])

-- a link to another page, where there is one
abbrev pub link_text : List ℕ → Option (List ℕ) → List ℕ
link_text start None = []
link_text start (Some link) = some_link_text start link

-- ---- features

unfoldable pub typed_member_text : Schema → FeatureType → Feature → List ℕ
typed_member_text schema of_type f = joined (codes "<wfs:member>" ∷ feature_text schema of_type f ∷ codes "</wfs:member>" ∷ [])

abbrev pub member_if : Schema → Option FeatureType → Feature → List ℕ
member_if schema None f = []
member_if schema (Some of_type) f = typed_member_text schema of_type f

-- a feature as a member; nothing where its type is not in the schema
unfoldable pub member_text : Schema → Feature → List ℕ
member_text schema f = member_if schema (type_of schema f.id.kind) f

unfoldable pub some_members_text : Schema → List Feature → List ℕ
some_members_text schema features = joined (codes ">" ∷ flat_map (member_text schema) features ∷ codes "</wfs:FeatureCollection>" ∷ [])

-- the end of the root, with the members before it
unfoldable pub members_text : Schema → List Feature → List ℕ
members_text schema features = if length features == 0 then codes "/>" else some_members_text schema features

unfoldable pub collection_body : Schema → ℕ → ℕ → List Feature → Option LockId → Option (List ℕ) → Option (List ℕ) → List ℕ
collection_body schema moment matched features lock next previous = joined (
    declared_text (codes "wfs:FeatureCollection") schema ∷ counted_text moment matched (length features) ∷ lock_text lock
    ∷ link_text (codes " next=\"") next ∷ link_text (codes " previous=\"") previous ∷ members_text schema features ∷ [])

-- ---- values

unfoldable pub valued_member_text : Schema → FeatureType → ℕ → Property → Value → List ℕ
valued_member_text schema of_type number property value = joined (
    codes "<wfs:member>" ∷ property_text schema of_type number (property, value) ∷ codes "</wfs:member>" ∷ [])

abbrev pub valued_if : Schema → FeatureType → ℕ → Option Property → Option Value → List ℕ
valued_if schema of_type number None value = []
valued_if schema of_type number (Some property) None = []
valued_if schema of_type number (Some property) (Some value) = valued_member_text schema of_type number property value

unfoldable pub typed_value_text : Schema → FeatureType → ℕ → Feature → List ℕ
typed_value_text schema of_type property f = valued_if schema of_type f.id.number (slice_get of_type.properties property) (slice_get f.values property)

abbrev pub value_if : Schema → Option FeatureType → ℕ → Feature → List ℕ
value_if schema None property f = []
value_if schema (Some of_type) property f = typed_value_text schema of_type property f

-- The value that a feature has of the property with this number, as a member. There is none where the schema does not have the feature's
-- type, the type does not have the property, or the feature has no value of it.
unfoldable pub value_member_text : Schema → ℕ → Feature → List ℕ
value_member_text schema property f = value_if schema (type_of schema f.id.kind) property f

unfoldable pub some_values_text : Schema → ℕ → List Feature → List ℕ
some_values_text schema property features = joined (
    codes ">" ∷ flat_map (value_member_text schema property) features ∷ codes "</wfs:ValueCollection>" ∷ [])

-- the end of the root, with the values before it
unfoldable pub values_text : Schema → ℕ → List Feature → List ℕ
values_text schema property features = if length features == 0 then codes "/>" else some_values_text schema property features

unfoldable pub values_body : Schema → ℕ → ℕ → ℕ → List Feature → Option (List ℕ) → Option (List ℕ) → List ℕ
values_body schema moment matched property features next previous = joined (
    declared_text (codes "wfs:ValueCollection") schema ∷ counted_text moment matched (length features) ∷ link_text (codes " next=\"") next
    ∷ link_text (codes " previous=\"") previous ∷ values_text schema property features ∷ [])
