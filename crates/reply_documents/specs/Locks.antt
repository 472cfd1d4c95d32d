-- The answer to a request for a lock (OGC 09-025r2, section 12.3). That the identifier of a lock is written `lock-E-N` is this project's own.
use Rattle.std.specs.Prelude.{ℕ, ◌&&◌, ◌==◌, if◌then◌else◌, List, [], ◌∷◌, length, codes, decimal, Option, Some, None}
use Rattle.std.specs.List.{flat_map}
use Rattle.wfs_ends.specs.Ends.{joined}
use Rattle.feature_values.specs.declared.feature.Rid.{Rid}
use Rattle.feature_values.specs.declared.schema.FeatureType.{FeatureType}
use Rattle.feature_values.specs.declared.schema.Schema.{Schema}
use Rattle.lock_table.specs.declared.id.LockId.{LockId}
use Rattle.reply_documents.specs.Features.{rid_text, type_of}

-- ---- locks

unfoldable pub some_lock_text : LockId → List ℕ
some_lock_text lock = joined (codes " lockId=\"lock-" ∷ decimal lock.opening ∷ codes "-" ∷ decimal lock.number ∷ codes "\"" ∷ [])

-- the identifier of a lock as an attribute, where there is a lock
abbrev pub lock_text : Option LockId → List ℕ
lock_text None = []
lock_text (Some lock) = some_lock_text lock

-- ---- features by their ids

unfoldable pub resource_text : FeatureType → ℕ → List ℕ
resource_text of_type number = joined (codes "<fes:ResourceId rid=\"" ∷ rid_text of_type number ∷ codes "\"/>" ∷ [])

abbrev pub resource_if : Option FeatureType → Rid → List ℕ
resource_if None id = []
resource_if (Some of_type) id = resource_text of_type id.number

-- a feature by its id; nothing where its type is not in the schema
unfoldable pub id_text : Schema → Rid → List ℕ
id_text schema id = resource_if (type_of schema id.kind) id

unfoldable pub some_ids_text : Schema → List ℕ → List Rid → List ℕ → List ℕ
some_ids_text schema start ids end = joined (start ∷ flat_map (id_text schema) ids ∷ end ∷ [])

-- features by their ids, where there are any
unfoldable pub ids_text : Schema → List ℕ → List Rid → List ℕ → List ℕ
ids_text schema start ids end = if length ids == 0 then [] else some_ids_text schema start ids end

-- ---- the document

unfoldable pub some_features_text : Schema → List Rid → List Rid → List ℕ
some_features_text schema taken missed = joined (
    codes ">" ∷ ids_text schema (codes "<wfs:FeaturesLocked>") taken (codes "</wfs:FeaturesLocked>")
    ∷ ids_text schema (codes "<wfs:FeaturesNotLocked>") missed (codes "</wfs:FeaturesNotLocked>") ∷ codes "</wfs:LockFeatureResponse>" ∷ [])

-- the end of the root, with the features that were taken and those that were not before it
unfoldable pub features_text : Schema → List Rid → List Rid → List ℕ
features_text schema taken missed =
    if (length taken == 0) && (length missed == 0) then codes "/>" else some_features_text schema taken missed

unfoldable pub locked_body : Schema → Option LockId → List Rid → List Rid → List ℕ
locked_body schema lock taken missed = joined (
    codes "<?xml version=\"1.0\" encoding=\"UTF-8\"?><wfs:LockFeatureResponse xmlns:wfs=\"http://www.opengis.net/wfs/2.0\" xmlns:fes=\"http://www.opengis.net/fes/2.0\""
    ∷ lock_text lock ∷ features_text schema taken missed ∷ [])
