-- What a read answers over features and stored queries.
use Rattle.std.specs.Prelude.{◌≡◌, ℕ, if◌then◌else◌, List, [], Ok}
use Rattle.wfs_ends.specs.Read.{◌>>=◌}
use Rattle.feature_values.specs.declared.feature.Feature.{Feature}
use Rattle.feature_values.specs.declared.feature.Rid.{Rid}
use Rattle.feature_values.specs.declared.schema.Schema.{Schema}
use Rattle.fes_filter.specs.declared.query.Query.{Query}
use Rattle.query_core.specs.Selecting.{all_selected, held}
use Rattle.wfs_model.specs.declared.asked.Asked.{Asked}
use Rattle.wfs_model.specs.declared.asked.Present.{Present}
use Rattle.wfs_model.specs.declared.stored.StoredQuery.{StoredQuery}
use Rattle.wfs_model.specs.declared.request.Request.{Request}
use Rattle.wfs_model.specs.declared.reply.Reply.{Reply}
use Rattle.wfs_model.specs.State.{Durable}
use Rattle.wfs_model.specs.Read.{read, reply_of, presented, is_for_one, bare, values, first_kind, property_asked}

-- The reply of a read in each state with these features and stored queries; the counters and the number of the opening do not matter.
pub record IsAnswer (schema : Schema) (features : List Feature) (stored : List StoredQuery) (moment : ℕ) (request : Request) (reply : Reply) : Type 0 where
  pub is : (kept : Durable) → kept.features ≡ features → kept.stored ≡ stored → reply ≡ read schema kept moment request

-- what outlives the process, with these features and stored queries
abbrev pub kept_with : List Feature → List StoredQuery → Durable
kept_with features stored = record { features = features; counters = []; stored = stored; opening = 0 }

-- features that were selected, by themselves or as they are presented
abbrev pub shown : List Feature → ℕ → Present → List Asked → List Rid → Reply
shown features moment present asked ids = if is_for_one present asked then bare (held features ids) else presented features moment present ids

-- the values of a property in what queries select
abbrev pub valued : Schema → List Feature → ℕ → Present → Asked → ℕ → List Query → Reply
valued schema features moment present asked number queries = reply_of (
    property_asked schema asked number (first_kind queries) >>= λ property.
    Ok (values moment present (first_kind queries) property (held features (all_selected features queries)))
    )
