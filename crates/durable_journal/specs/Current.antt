-- Which of a journal's two files is the current one, and what both hold where nothing is begun.
use Rattle.std.specs.Prelude.{◌+◌, ℕ, List, length, Bool, not}
use Rattle.disk_core.specs.declared.pair.Pair.{Pair}
use Rattle.feature_journal.specs.declared.journal.Journal.{Journal}
use Rattle.feature_journal.specs.Held.{HeldClosed}
use Rattle.feature_journal.specs.Kept.{is_second, generation_in}
use Rattle.feature_journal.specs.Side.{side}
use Rattle.feature_values.specs.declared.schema.Schema.{Schema}
use Rattle.wfs_model.specs.State.{Durable}
use Rattle.durable_journal.specs.Opened.{checkpoint_bodies}

-- whether side b is current, or side a, and its generation
pub record Current : Type 0 where
  pub second : Bool
  pub generation : ℕ

abbrev pub current_in : {D : Type 0} → Journal D → Current
current_in journal = record { second = is_second journal; generation = generation_in journal }

-- the other side, with the next generation
abbrev pub turned : Current → Current
turned current = record { second = not current.second; generation = current.generation + 1 }

-- Just these records are the list. Whatever a crash leaves of the current side begins with its generation and them, each behind
-- an open gate, and then a closed gate. The other side does no harm beside it: it is short, or closed, or older, or it is side b
-- and has the same generation.
abbrev pub HoldsJust : {D : Type 0} (images : D → List ℕ → Type 0) → Current → (bodies : List (List ℕ)) → Pair D → Type 0
HoldsJust images current bodies disks =
    HeldClosed images current.second current.generation (length (side current.generation bodies)) bodies disks

-- the records of a checkpoint of what is kept, in its order
abbrev pub HoldsCheckpoint : {D : Type 0} (images : D → List ℕ → Type 0) → Current → Schema → Durable → Pair D → Type 0
HoldsCheckpoint images current schema kept disks = HoldsJust images current (checkpoint_bodies schema kept) disks

-- some list, and nothing is begun
abbrev pub HoldsSome : {D : Type 0} (images : D → List ℕ → Type 0) → Current → Pair D → Type 0
HoldsSome images current disks = (bodies : List (List ℕ)) × HoldsJust images current bodies disks
