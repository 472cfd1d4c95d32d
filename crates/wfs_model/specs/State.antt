-- What the service knows at a moment, and what of it outlives the process. A moment is in whole seconds since 1970.
use Rattle.std.specs.Prelude.{ℕ, List, [], length, replicate, min, max}
use Rattle.feature_values.specs.declared.feature.Feature.{Feature}
use Rattle.feature_values.specs.declared.schema.Schema.{Schema}
use Rattle.lock_table.specs.Lock.{Lock}
use Rattle.wfs_model.specs.declared.stored.StoredQuery.{StoredQuery}

-- what outlives the process
pub record Durable : Type 0 where
  -- in default order: by type, in the order of the schema, and within a type by number
  pub features : List Feature
  -- how many numbers were given, by type
  pub counters : List ℕ
  -- the stored queries but the built-in one, in the order in which they were made
  pub stored : List StoredQuery
  -- the number of this opening of the service
  pub opening : ℕ

-- Of the locks of this opening those that were live when a lock was last granted, renewed or released, in the order in which they were
-- granted. Which of them are live at a moment, their deadlines say; no earlier one can be live again.
pub record State : Type 0 where
  pub features : List Feature
  pub counters : List ℕ
  pub stored : List StoredQuery
  pub opening : ℕ
  pub locks : List Lock
  -- how many locks were granted in this opening
  pub given : ℕ
  -- the last moment
  pub last : ℕ

abbrev pub durable : State → Durable
durable state = record { features = state.features; counters = state.counters; stored = state.stored; opening = state.opening }

-- The state in which an opening of this number begins, on what has outlived the earlier ones.
abbrev pub opened : Durable → ℕ → State
opened kept opening = record {
  features = kept.features;
  counters = kept.counters;
  stored = kept.stored;
  opening = opening;
  locks = [];
  given = 0;
  last = 0;
}

-- before the first opening, with so many types
abbrev pub nothing : ℕ → Durable
nothing types = record { features = []; counters = replicate types 0; stored = []; opening = 0 }

-- the state in which the first opening begins
abbrev pub first_state : ℕ → State
first_state types = opened (nothing types) 1

-- a machine: the schema that it serves, and its state
pub record Machine : Type 0 where
  pub schema : Schema
  pub state : State

-- the machine of the first opening
abbrev pub first_machine : Schema → Machine
first_machine schema = record { schema = schema; state = first_state (length schema.types) }

-- ---- moments

-- a moment that is handed in counts as this one at the most (the year 8307)
abbrev pub last_moment : ℕ
last_moment = 200_000_000_000

abbrev pub clamped : ℕ → ℕ
clamped moment = min moment last_moment

-- the moment of an entry: the one that is handed in, and never before the last one
abbrev pub moment_in : State → ℕ → ℕ
moment_in state moment = max (clamped moment) state.last
