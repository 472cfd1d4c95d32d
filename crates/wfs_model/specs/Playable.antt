-- Which changes may be played on what is kept, so that it stays well kept. A journal with another one is not this schema's. The limit on numbers
-- is this project's own.
use Rattle.std.specs.Prelude.{ℕ, ◌+◌, Bool, true, false, ◌&&◌, ◌==◌, not, nat_le, nat_lt, List, [], ◌∷◌, length, All, is_some, Result, Ok, Err, ⊤}
use Rattle.std.specs.List.{list_all, list_any}
use Rattle.feature_values.specs.declared.schema.Schema.{Schema}
use Rattle.feature_values.specs.Fits.{feature_fits}
use Rattle.fes_filter.specs.View.{feature_at}
use Rattle.wfs_model.specs.declared.change.Part.{Part}
use Rattle.wfs_model.specs.declared.change.Part.TheVariants.{Put, Remove}
use Rattle.wfs_model.specs.declared.change.Change.{Change}
use Rattle.wfs_model.specs.declared.change.Change.TheVariants.{Opening, Rows, Created, Dropped, Base}
use Rattle.wfs_model.specs.declared.stored.StoredQuery.{StoredQuery}
use Rattle.wfs_model.specs.State.{Durable}
use Rattle.wfs_model.specs.OfSchema.{IsQueryOf}
use Rattle.wfs_model.specs.Expand.{is_same_name}
use Rattle.wfs_model.specs.Stored.{created, is_there}
use Rattle.wfs_model.specs.Played.{part_played}

-- the greatest number that is given of a type
abbrev pub most_number : ℕ
most_number = 1_000_000_000_000

-- numbers are counted from 1
abbrev pub is_number : ℕ → Bool
is_number n = nat_le 1 n && nat_le n most_number

abbrev pub is_ok : {X E : Type 0} → Result X E → Bool
is_ok (Ok x) = true
is_ok (Err fault) = false

-- ---- features

-- A feature that is put is such as the schema allows, under a number that may be given. One that goes has to be there.
unfoldable pub is_part : Schema → Durable → Part → Bool
is_part schema kept (Put f) = is_ok (feature_fits schema f) && is_number f.id.number
is_part schema kept (Remove id) = is_some (feature_at id kept.features)

-- parts one after the other, each on what the earlier ones left
unfoldable pub are_parts : Schema → Durable → List Part → Bool
are_parts schema kept [] = true
are_parts schema kept (part ∷ parts) = is_part schema kept part && are_parts schema (part_played kept part) parts

-- ---- stored queries

-- names of parameters, none empty and no two alike but for their case
unfoldable pub are_names : List (List ℕ) → Bool
are_names [] = true
are_names (name ∷ names) = nat_lt 0 (length name) && (not (list_any (is_same_name name) names) && are_names names)

-- what a stored query asks is such as the schema allows
abbrev pub IsAskedOf : Schema → StoredQuery → Type 0
IsAskedOf schema stored = All (IsQueryOf schema (length stored.parameters)) stored.queries

-- the same of each that a change makes
abbrev pub AreQueriesOf : Schema → Change → Type 0
AreQueriesOf schema (Created queries) = All (IsAskedOf schema) queries
AreQueriesOf schema change = ⊤

-- ---- changes

-- A change that may be played, where what its stored queries ask is such as the schema allows. An opening has the next number. The beginning of a
-- checkpoint stands before all else, and has a counter for each type.
unfoldable pub is_playable : Schema → Durable → Change → Bool
is_playable schema kept (Opening opening) = opening == kept.opening + 1
is_playable schema kept (Rows parts) = are_parts schema kept parts
is_playable schema kept (Created queries) = is_ok (created kept.stored queries) && list_all (λ query. are_names query.parameters) queries
is_playable schema kept (Dropped id) = is_there kept.stored id
is_playable schema kept (Base opening counters) =
    (((length kept.features == 0) && (length kept.stored == 0)) && ((kept.opening == 0) && list_all (λ n. n == 0) kept.counters))
    && ((length counters == length schema.types) && list_all (λ n. nat_le n most_number) counters)
