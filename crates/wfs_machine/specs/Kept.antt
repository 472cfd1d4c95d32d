-- What holds of each plain machine, and what a change that was kept leaves of one.
use Rattle.std.specs.Prelude.{◌≡◌, ◌≤◌}
use Rattle.feature_values.specs.declared.schema.Schema.{Schema}
use Rattle.lock_table.specs.Lock.{Locks}
use Rattle.wfs_model.specs.declared.change.Change.{Change}
use Rattle.wfs_model.specs.declared.change.Change.TheVariants.{Opening, Base}
use Rattle.wfs_model.specs.State.{State, Durable, durable, opened, last_moment}
use Rattle.wfs_model.specs.Played.{played_one}
use Rattle.wfs_model.specs.Kept.{IsKept}

-- ---- machines

-- what outlives the process is kept well, the table of locks is of the machine's opening and was given no moment behind the last one
pub record IsRunning (schema : Schema) (state : State) (table : Locks) : Type 0 where
  pub kept : IsKept schema (durable state)
  pub opening : table.opening ≡ state.opening
  pub given : table.given ≡ state.given
  pub later : table.last ≤ state.last
  pub last : state.last ≤ last_moment

-- ---- changes

-- A change that keeps well what outlives the process. Each that may be played does, and each that a step makes.
abbrev pub KeepsWell : Schema → State → Change → Type 0
KeepsWell schema state change = IsKept schema (played_one (durable state) change)

-- a state with other things that outlive the process
abbrev pub with_durable : State → Durable → State
with_durable state kept = record state { features = kept.features; counters = kept.counters; stored = kept.stored; opening = kept.opening }

-- The state after a change that was kept is played. An opening begins without locks, and so does one that a checkpoint tells of.
abbrev pub after_change : State → Change → State
after_change state (Opening opening) = opened (durable state) opening
after_change state (Base opening counters) = opened (played_one (durable state) (Base opening counters)) opening
after_change state change = with_durable state (played_one (durable state) change)
