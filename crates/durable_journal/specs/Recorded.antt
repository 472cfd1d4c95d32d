-- How one more change is recorded.
use Rattle.std.specs.Prelude.{◌≡◌, ℕ, ◌+◌, true, false, List, length, Option, None, Some}
use Rattle.feature_journal.specs.declared.journal.Journal.{Journal}
use Rattle.feature_values.specs.declared.schema.Schema.{Schema}
use Rattle.journal_replay.specs.Replayed.{may_stand}
use Rattle.journal_replay.specs.Written.{body_in, IsReadIn, HasKeptTexts}
use Rattle.wfs_model.specs.declared.change.Change.{Change}
use Rattle.wfs_model.specs.Playable.{is_playable}
use Rattle.wfs_model.specs.Played.{played_one}
use Rattle.wfs_model.specs.State.{Durable}
use Rattle.durable_journal.specs.declared.recording.Recorded.{Recorded}
use Rattle.durable_journal.specs.declared.recording.Recorded.TheVariants.{Done, FaultClean, FaultBegun, FaultHeld}
use Rattle.durable_journal.specs.Kept.{Keeps}

-- a body says a change that may come behind what is kept, and is read back as it
pub record MayAppend (schema : Schema) (kept : Durable) (change : Change) (body : List ℕ) : Type 0 where
  pub is : body ≡ body_in schema change
  pub stands : may_stand false change ≡ true
  pub playable : is_playable schema kept change ≡ true
  pub texts : HasKeptTexts schema change
  pub read_back : IsReadIn schema change

-- the change is kept, or nothing is begun, or it is begun, or what was begun still is
abbrev pub IsRecorded : {D : Type 0} (images : D → List ℕ → Type 0) → Schema → Durable → (begun : Option Change) → Change → Recorded → Journal D → Type 0
IsRecorded images schema kept begun change Done journal = Keeps images schema (played_one kept change) None journal
IsRecorded images schema kept begun change FaultClean journal = Keeps images schema kept None journal
IsRecorded images schema kept begun change FaultBegun journal = Keeps images schema kept (Some change) journal
IsRecorded images schema kept begun change FaultHeld journal = Keeps images schema kept begun journal

-- by how many bytes the side is longer: a gate, a length and the body
abbrev pub longer_by : Recorded → List ℕ → ℕ
longer_by Done body = 5 + length body
longer_by fault body = 0
