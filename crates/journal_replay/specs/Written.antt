-- What can be had again from a journal: changes from their bodies, and what is kept from all of them.
use Rattle.std.specs.Prelude.{◌≡◌, ℕ, ◌≤◌, ◌==◌, true, List, [], ◌∷◌, ◌++◌, length, All, Ok, ⊤}
use Rattle.feature_values.specs.declared.schema.Schema.{Schema}
use Rattle.feature_schema.specs.Signature.{signature_text}
use Rattle.wfs_model.specs.declared.change.Change.{Change}
use Rattle.wfs_model.specs.declared.change.Change.TheVariants.{Created}
use Rattle.wfs_model.specs.State.{Durable}
use Rattle.wfs_model.specs.Kept.{IsKept}
use Rattle.wfs_model.specs.Playable.{most_number, is_playable}
use Rattle.wfs_model.specs.Played.{played_one}
use Rattle.query_docs.specs.Reading.{IsKeptText}
use Rattle.journal_format.specs.Spelling.{body_of}
use Rattle.journal_format.specs.RoundTrip.{IsReadBack}
use Rattle.recovery.specs.Replay.Verdict.{accepted}
use Rattle.journal_replay.specs.Change.{change_in}
use Rattle.journal_replay.specs.Replayed.{may_stand, replayed, verdict_on}

-- the body of a change, in a journal of a schema
abbrev pub body_in : Schema → Change → List ℕ
body_in schema change = body_of change (signature_text schema)

-- the body is read as the change, but for what its stored queries ask
abbrev pub IsReadIn : Schema → Change → Type 0
IsReadIn schema change = IsReadBack change (signature_text schema)

-- the texts of the stored queries that a change makes tell what they ask
abbrev pub HasKeptTexts : Schema → Change → Type 0
HasKeptTexts schema (Created stored) = All (IsKeptText schema) stored
HasKeptTexts schema change = ⊤

-- ---- one more body

-- a change may come behind bodies that come to what is kept, and its body says it
pub record MayCome (schema : Schema) (taken : List (List ℕ)) (kept : Durable) (change : Change) : Type 0 where
  pub stands : may_stand (length taken == 0) change ≡ true
  pub playable : is_playable schema kept change ≡ true
  pub texts : HasKeptTexts schema change
  pub read_back : IsReadIn schema change

-- a body is taken behind others, and all of them come to this
pub record IsTaken (schema : Schema) (taken : List (List ℕ)) (body : List ℕ) (now : Durable) : Type 0 where
  pub verdict : verdict_on schema taken body ≡ accepted
  pub come : replayed schema (taken ++ body ∷ []) ≡ Ok now

-- a body plays one change, which may be played on what is kept
pub record PlaysOne (schema : Schema) (body : List ℕ) (kept now : Durable) : Type 0 where
  pub change : Change
  pub said : change_in schema body ≡ Ok change
  pub playable : is_playable schema kept change ≡ true
  pub leaves : played_one kept change ≡ now

-- ---- what is kept

-- no type has given a greater number than may be given
abbrev pub HasNumbers : Durable → Type 0
HasNumbers kept = All (λ n. n ≤ most_number) kept.counters

-- what can be had again from the bodies of a journal
pub record IsRestorable (schema : Schema) (kept : Durable) : Type 0 where
  pub well : IsKept schema kept
  pub numbers : HasNumbers kept
  pub texts : All (IsKeptText schema) kept.stored
