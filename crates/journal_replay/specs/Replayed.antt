-- What the bodies of a journal's records come to, one after the other, from nothing on. That a journal begins with an opening or with the beginning of
-- a checkpoint is this project's own.
use Rattle.std.specs.Prelude.{ℕ, Bool, true, false, not, ◌&&◌, if◌then◌else◌, List, [], ◌∷◌, ◌++◌, length, Result, Ok, Err}
use Rattle.wfs_ends.specs.Read.{◌>>=◌}
use Rattle.feature_values.specs.declared.schema.Schema.{Schema}
use Rattle.wfs_model.specs.declared.change.Change.{Change}
use Rattle.wfs_model.specs.declared.change.Change.TheVariants.{Opening, Base}
use Rattle.wfs_model.specs.State.{Durable, nothing}
use Rattle.wfs_model.specs.Playable.{is_playable}
use Rattle.wfs_model.specs.Played.{played_one}
use Rattle.recovery.specs.declared.replay.ReplayFault.{ReplayFault}
use Rattle.recovery.specs.declared.replay.ReplayFault.TheVariants.{BadBytes, NotOfSchema}
use Rattle.recovery.specs.Replay.{Verdict}
use Rattle.recovery.specs.Replay.Verdict.{accepted, bad_bytes, not_of_schema}
use Rattle.journal_replay.specs.Change.{change_in}

-- ---- one body

-- An opening may stand at each place, the beginning of a checkpoint stands first alone, and all other changes stand behind another.
abbrev pub may_stand : Bool → Change → Bool
may_stand is_first (Opening opening) = true
may_stand is_first (Base opening counters) = is_first
may_stand is_first change = not is_first

-- what is kept after a change, where it may come there
unfoldable pub kept_with : Schema → Bool → Durable → Change → Result Durable ReplayFault
kept_with schema is_first kept change =
    if may_stand is_first change && is_playable schema kept change then Ok (played_one kept change) else Err NotOfSchema

-- what is kept after one more body
unfoldable pub kept_after : Schema → Bool → Durable → List ℕ → Result Durable ReplayFault
kept_after schema is_first kept body = change_in schema body >>= λ change. kept_with schema is_first kept change

-- ---- all bodies

-- what is kept after more bodies, of which the first may be the first of all
unfoldable pub kept_after_all : Schema → Bool → Durable → List (List ℕ) → Result Durable ReplayFault
kept_after_all schema is_first kept [] = Ok kept
kept_after_all schema is_first kept (body ∷ bodies) = kept_after schema is_first kept body >>= λ now. kept_after_all schema false now bodies

-- what bodies come to from nothing on, or why the first of them is not taken that is not
unfoldable pub replayed : Schema → List (List ℕ) → Result Durable ReplayFault
replayed schema bodies = kept_after_all schema true (nothing (length schema.types)) bodies

-- ---- verdicts

abbrev pub verdict_of : {A : Type 0} → Result A ReplayFault → Verdict
verdict_of (Ok x) = accepted
verdict_of (Err BadBytes) = bad_bytes
verdict_of (Err fault) = not_of_schema

-- the verdict on a body behind those that were taken, by what they come to together
unfoldable pub verdict_on : Schema → List (List ℕ) → List ℕ → Verdict
verdict_on schema taken body = verdict_of (replayed schema (taken ++ body ∷ []))
