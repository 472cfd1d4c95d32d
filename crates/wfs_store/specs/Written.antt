-- A change is written to the journal, and another one may be begun.
use Rattle.std.specs.Prelude.{◌≡◌, ◌⊎◌, ℕ, ◌+◌, List, length, Option, Some, None, Result, Ok, Err}
use Rattle.std.specs.Option.{option_to_list}
use Rattle.durable_journal.specs.Kept.{Keeps}
use Rattle.feature_journal.specs.declared.journal.Journal.{Journal}
use Rattle.feature_values.specs.declared.schema.Schema.{Schema}
use Rattle.wfs_ends.specs.declared.fault.Failed.{Failed}
use Rattle.wfs_model.specs.declared.change.Change.{Change}
use Rattle.wfs_model.specs.Played.{played}
use Rattle.wfs_model.specs.State.{Durable}

-- what is begun once a change is made: nothing any more, where there was one to make
abbrev pub begun_after : (made begun : Option Change) → Option Change
begun_after None begun = begun
begun_after (Some change) begun = None

-- what a fault leaves begun: nothing, what was begun before, or the change that was to be made
abbrev pub WasLeft : (begun made : Option Change) → Option Change → Type 0
WasLeft begun made left = (left ≡ None) ⊎ ((left ≡ begun) ⊎ (left ≡ made))

-- the journal keeps the change, or, after a fault, what it kept before
abbrev pub IsWritten : {D : Type 0} (images : D → List ℕ → Type 0) → Schema → Durable → (made : Option Change) → Result (Unit {0}) Failed → (begun : Option Change) → Journal D → Type 0
IsWritten images schema kept made (Ok done) begun journal = Keeps images schema (played kept (option_to_list made)) begun journal
IsWritten images schema kept made (Err fault) begun journal = Keeps images schema kept begun journal

-- by how many bytes a side is longer: a gate, a length and the body
abbrev pub longer_by : Option Change → List ℕ → ℕ
longer_by None body = 0
longer_by (Some change) body = 5 + length body
