-- What the service offers, as a document (OGC 09-025r2, section 8.3; OGC 06-121r9, section 7.4).
use Rattle.std.specs.Prelude.{ℕ, true, false, List, [], ◌∷◌, codes}
use Rattle.std.specs.List.{flat_map}
use Rattle.wfs_ends.specs.Ends.{joined}
use Rattle.doc_tree.specs.Escape.{escaped}
use Rattle.feature_values.specs.declared.schema.FeatureType.{FeatureType}
use Rattle.feature_values.specs.declared.schema.Schema.{Schema}

-- ---- operations

-- an operation that is asked for by GET and by POST at this address
unfoldable pub operation_text : List ℕ → List ℕ → List ℕ
operation_text address name = joined (
    codes "<ows:Operation name=\"" ∷ name ∷ codes "\"><ows:DCP><ows:HTTP><ows:Get xlink:href=\"" ∷ escaped true address
    ∷ codes "?\"/><ows:Post xlink:href=\"" ∷ escaped true address ∷ codes "\"/></ows:HTTP></ows:DCP></ows:Operation>" ∷ [])

-- an operation that is asked for by POST alone
unfoldable pub post_operation_text : List ℕ → List ℕ → List ℕ
post_operation_text address name = joined (
    codes "<ows:Operation name=\"" ∷ name ∷ codes "\"><ows:DCP><ows:HTTP><ows:Post xlink:href=\"" ∷ escaped true address
    ∷ codes "\"/></ows:HTTP></ows:DCP></ows:Operation>" ∷ [])

unfoldable pub operations_text : List ℕ → List ℕ
operations_text address = joined (
    operation_text address (codes "GetCapabilities") ∷ operation_text address (codes "DescribeFeatureType")
    ∷ operation_text address (codes "GetPropertyValue") ∷ operation_text address (codes "GetFeature")
    ∷ operation_text address (codes "GetFeatureWithLock") ∷ operation_text address (codes "LockFeature")
    ∷ post_operation_text address (codes "Transaction") ∷ operation_text address (codes "ListStoredQueries")
    ∷ operation_text address (codes "DescribeStoredQueries") ∷ post_operation_text address (codes "CreateStoredQuery")
    ∷ operation_text address (codes "DropStoredQuery") ∷ [])

-- ---- types

unfoldable pub other_system_text : List ℕ → List ℕ
other_system_text name = joined (codes "<wfs:OtherCRS>" ∷ escaped false name ∷ codes "</wfs:OtherCRS>" ∷ [])

unfoldable pub some_systems_text : List ℕ → List (List ℕ) → List ℕ
some_systems_text first others = joined (
    codes "<wfs:DefaultCRS>" ∷ escaped false first ∷ codes "</wfs:DefaultCRS>" ∷ flat_map other_system_text others ∷ [])

-- the names of the reference system: the first is the default
abbrev pub systems_text : List (List ℕ) → List ℕ
systems_text [] = []
systems_text (first ∷ others) = some_systems_text first others

unfoldable pub type_text : Schema → FeatureType → List ℕ
type_text schema of_type = joined (
    codes "<wfs:FeatureType><wfs:Name>" ∷ schema.prefix ∷ codes ":" ∷ of_type.name ∷ codes "</wfs:Name><wfs:Title>" ∷ of_type.name
    ∷ codes "</wfs:Title>" ∷ systems_text schema.srs ∷ codes "</wfs:FeatureType>" ∷ [])

-- ---- the document

-- the namespaces
unfoldable pub declared_text : Schema → List ℕ
declared_text schema = joined (
    codes "<?xml version=\"1.0\" encoding=\"UTF-8\"?><wfs:WFS_Capabilities xmlns:wfs=\"http://www.opengis.net/wfs/2.0\" xmlns:ows=\"http://www.opengis.net/ows/1.1\" xmlns:xlink=\"http://www.w3.org/1999/xlink\" xmlns:"
    ∷ schema.prefix ∷ codes "=\"" ∷ escaped true schema.space ∷ codes "\" version=\"2.0.2\">" ∷ [])

-- what the service offers: its title, its operations and its feature types
unfoldable pub capabilities_document : Schema → List ℕ
capabilities_document schema = joined (
    declared_text schema ∷ codes "<ows:ServiceIdentification><ows:Title>" ∷ escaped false schema.title
    ∷ codes "</ows:Title><ows:ServiceType>WFS</ows:ServiceType><ows:ServiceTypeVersion>2.0.2</ows:ServiceTypeVersion></ows:ServiceIdentification><ows:OperationsMetadata>"
    ∷ operations_text schema.address ∷ codes "</ows:OperationsMetadata><wfs:FeatureTypeList>" ∷ flat_map (type_text schema) schema.types
    ∷ codes "</wfs:FeatureTypeList></wfs:WFS_Capabilities>" ∷ [])
