-- What a store is seen as.
use Rattle.std.specs.Prelude.{ℕ, List, Option}
use Rattle.disk_core.specs.declared.pair.Pair.{Pair}
use Rattle.durable_journal.specs.Current.{Current}
use Rattle.feature_values.specs.declared.schema.Schema.{Schema}
use Rattle.wfs_model.specs.declared.change.Change.{Change}
use Rattle.wfs_model.specs.declared.entry.Entry.{Entry}
use Rattle.wfs_model.specs.declared.limits.Limits.{Limits}
use Rattle.wfs_model.specs.State.{Durable, State, durable}
use Rattle.wfs_model.specs.History.{after_all}

pub record Held (D : Type 0) : Type 0 where
  pub schema : Schema
  pub limits : Limits
  -- the state in which this opening began
  pub opening : State
  -- the history of this opening
  pub entries : List Entry
  -- how long the journal's side was when the opening's record, or the last checkpoint, had been written
  pub side : ℕ
  -- which of the two disks has the current side, and its generation
  pub current : Current
  -- the change whose record a fault left begun: a crash may leave it made
  pub begun : Option Change
  -- how many steps of each seat ended in a store fault, by the seat's number
  pub tally : List ℕ
  pub disks : Pair D

-- the state after the whole history
abbrev pub now_of : {D : Type 0} → Held D → State
now_of held = after_all held.schema held.opening held.entries

-- what outlives the process of it
abbrev pub kept_of : {D : Type 0} → Held D → Durable
kept_of held = durable (now_of held)
