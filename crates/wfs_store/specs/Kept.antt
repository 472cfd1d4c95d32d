-- What a store keeps between its calls: its memory is the state after the history, and its journal stands for what outlives the process.
use Rattle.std.specs.Prelude.{◌≡◌, ℕ, ◌+◌, ◌≤◌, List, length, Option, Result, Ok, Err}
use Rattle.durable_journal.specs.Current.{current_in}
use Rattle.durable_journal.specs.Kept.{Keeps}
use Rattle.durable_journal.specs.Standing.{ComeTo}
use Rattle.feature_journal.specs.declared.journal.Journal.{Journal}
use Rattle.feature_journal.specs.Kept.{disks_of, length_of, limit_of}
use Rattle.feature_schema.specs.Rules.{KeepsRules}
use Rattle.feature_schema.specs.Signature.{signature_text}
use Rattle.feature_values.specs.declared.schema.Schema.{Schema}
use Rattle.journal_replay.specs.Replayed.{replayed}
use Rattle.journal_replay.specs.Written.{body_in}
use Rattle.wfs_model.specs.declared.change.Change.{Change}
use Rattle.wfs_model.specs.declared.entry.Entry.{Entry}
use Rattle.wfs_model.specs.Played.{accepted}
use Rattle.wfs_model.specs.State.{Durable, State, durable, first_state, opened}
use Rattle.wfs_store.specs.declared.course.Course.{Course}
use Rattle.wfs_store.specs.Held.{Held}
use Rattle.wfs_store.specs.Judged.{added_by}
use Rattle.wfs_store.specs.Past.{IsPast}

-- the next opening of what is kept
abbrev pub next_of : Durable → State
next_of kept = opened kept (kept.opening + 1)

abbrev pub opening_by : {E : Type 0} → Schema → Result Durable E → State
opening_by schema (Ok kept) = next_of kept
opening_by schema (Err fault) = first_state (length schema.types)

-- the state in which the next opening begins on what bodies come to
abbrev pub opening_on : Schema → List (List ℕ) → State
opening_on schema bodies = opening_by schema (replayed schema bodies)

-- how many bytes the body of a change has
abbrev pub body_length : Schema → Change → ℕ
body_length schema change = length (body_in schema change)

-- how long the journal's side is after entries, where it was so long at the beginning
abbrev pub length_after : Schema → ℕ → State → List Entry → ℕ
length_after schema side opening entries = side + added_by (body_length schema) (accepted schema opening entries)

-- what stands in memory
pub record IsCourse (opening : State) (course : Course) : Type 0 where
  pub past : IsPast course.state.schema opening course.state.state course.history.items course.bytes course.last
  pub signature : course.signature ≡ signature_text course.state.schema
  pub rules : KeepsRules course.state.schema
  pub few : course.bytes ≤ course.limits.bytes

pub record IsStore {D : Type 0} (images : D → List ℕ → Type 0) (course : Course) (journal : Journal D) (bodies : List (List ℕ)) (side : ℕ) (begun : Option Change) : Type 0 where
  -- the bodies that were recovered come to something, from which the opening begins
  pub kept : Durable
  pub come : ComeTo course.state.schema kept bodies
  pub memory : IsCourse (opening_on course.state.schema bodies) course
  -- the journal stands for what the history leaves, or for that with the change that is begun
  pub keeps : Keeps images course.state.schema (durable course.state.state) begun journal
  pub length : length_of journal ≡ length_after course.state.schema side (opening_on course.state.schema bodies) course.history.items
  pub limit : limit_of journal ≡ course.limits.side
  pub within : length_of journal ≤ course.limits.side

-- what contracts see of it
abbrev pub held_of : {D : Type 0} → Course → Journal D → (bodies : List (List ℕ)) → (side : ℕ) → (begun : Option Change) → (tally : List ℕ) → Held D
held_of course journal bodies side begun tally = record {
  schema = course.state.schema;
  limits = course.limits;
  opening = opening_on course.state.schema bodies;
  entries = course.history.items;
  side = side;
  current = current_in journal;
  begun = begun;
  tally = tally;
  disks = disks_of journal;
}
