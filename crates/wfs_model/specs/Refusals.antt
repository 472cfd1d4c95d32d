-- How requests are refused: by a row of the table of refusals (docs/FORMATS.md), which points at a part of the request.
use Rattle.std.specs.Prelude.{ℕ, List, [], ◌++◌, codes, decimal, Option, Some, None, Result, Ok, Err, slice_get}
use Rattle.feature_values.specs.declared.schema.FeatureType.{FeatureType}
use Rattle.feature_values.specs.declared.schema.Schema.{Schema}
use Rattle.feature_values.specs.declared.feature.Rid.{Rid}
use Rattle.wfs_model.specs.declared.reply.Refusal.{Refusal}
use Rattle.wfs_model.specs.declared.fault.StoredFault.{StoredFault}
use Rattle.wfs_model.specs.declared.fault.StoredFault.TheVariants.{DuplicateId, DuplicateParameter, Unknown, MissingParameter, BuiltIn, BadParameter, OutOfMemory}

abbrev pub refusal : ℕ → List ℕ → Refusal
refusal row locator = record { row = row; locator = locator }

-- ---- resource ids

abbrev pub type_name : Option FeatureType → List ℕ
type_name None = []
type_name (Some of_type) = of_type.name

-- the identifier of a feature as text: its type's name, a dot and its number
unfoldable pub rid_text : Schema → Rid → List ℕ
rid_text schema id = (type_name (slice_get schema.types id.kind) ++ codes ".") ++ decimal id.number

-- ---- locks

abbrev pub unknown_lock : Refusal
unknown_lock = refusal 15 (codes "lockId")

abbrev pub expired_lock : Refusal
expired_lock = refusal 16 (codes "lockId")

-- a feature is locked, and the transaction names no lock
abbrev pub is_locked : Refusal
is_locked = refusal 18 (codes "lockId")

-- a feature is locked, and the transaction names another lock
unfoldable pub is_locked_by_another : Schema → Rid → Refusal
is_locked_by_another schema id = refusal 19 (rid_text schema id)

-- not all features can be locked, of which this one comes first
unfoldable pub is_not_free : Schema → Rid → Refusal
is_not_free schema id = refusal 20 (rid_text schema id)

-- ---- features

-- a Replace of more than one feature
abbrev pub not_one : Refusal
not_one = refusal 17 (codes "Filter")

-- no feature has the identifier that is asked for
abbrev pub no_such_feature : Refusal
no_such_feature = refusal 23 (codes "id")

-- ---- stored queries

abbrev pub no_such_query : Refusal
no_such_query = refusal 24 (codes "storedQuery_id")

-- a property that the type has not, by its name as it was given
abbrev pub no_such_property : List ℕ → Refusal
no_such_property name = refusal 11 name

-- how what is wrong with stored queries is refused
abbrev pub refusal_of : StoredFault → Refusal
refusal_of (DuplicateId id) = refusal 21 id
refusal_of (DuplicateParameter name) = refusal 22 name
refusal_of (Unknown id) = no_such_query
refusal_of (MissingParameter name) = refusal 10 name
refusal_of BuiltIn = refusal 12 (codes "storedQuery_id")
refusal_of (BadParameter name) = refusal 11 name
refusal_of OutOfMemory = refusal 27 (codes "memory")

abbrev pub or_refused : {X : Type 0} → Result X StoredFault → Result X Refusal
or_refused (Ok x) = Ok x
or_refused (Err fault) = Err (refusal_of fault)
