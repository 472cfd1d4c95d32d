-- What a journal keeps between its calls: its files stand for what outlives the process, and for what is begun.
use Rattle.std.specs.Prelude.{◌≡◌, ◌⊎◌, ◌==◌, ℕ, false, List, [], ◌∷◌, ◌++◌, length, Option, None, Some}
use Rattle.feature_journal.specs.declared.journal.Journal.{Journal}
use Rattle.feature_journal.specs.Kept.{Rests, Began, BeganSide, seen}
use Rattle.feature_values.specs.declared.schema.Schema.{Schema}
use Rattle.journal_replay.specs.Written.{body_in}
use Rattle.wfs_model.specs.declared.change.Change.{Change}
use Rattle.wfs_model.specs.Played.{played_one}
use Rattle.wfs_model.specs.State.{Durable}
use Rattle.durable_journal.specs.Holdable.{IsHoldable}
use Rattle.durable_journal.specs.Standing.{ComeTo}

-- Bodies of records that come to what is kept. There is one at least: that of an opening or of the beginning of a checkpoint.
pub record IsListOf (schema : Schema) (kept : Durable) (bodies : List (List ℕ)) : Type 0 where
  pub come : ComeTo schema kept bodies
  pub some : (length bodies == 0) ≡ false
  pub holdable : IsHoldable kept

-- its list comes to what is kept, and nothing is begun
pub record IsAtRest {D : Type 0} (images : D → List ℕ → Type 0) (schema : Schema) (kept : Durable) (journal : Journal D) : Type 0 where
  pub bodies : List (List ℕ)
  pub rests : Rests images bodies (seen journal)
  pub list : IsListOf schema kept bodies

-- the same of a list that may be empty, as before the first opening
pub record Holds {D : Type 0} (images : D → List ℕ → Type 0) (schema : Schema) (kept : Durable) (journal : Journal D) : Type 0 where
  pub bodies : List (List ℕ)
  pub rests : Rests images bodies (seen journal)
  pub come : ComeTo schema kept bodies
  pub holdable : IsHoldable kept

-- the record of one more change is begun
pub record HasBegun {D : Type 0} (images : D → List ℕ → Type 0) (schema : Schema) (kept : Durable) (change : Change) (journal : Journal D) : Type 0 where
  pub bodies : List (List ℕ)
  pub began : Began images bodies (body_in schema change) (seen journal)
  pub list : IsListOf schema kept bodies
  pub with_it : ComeTo schema (played_one kept change) (bodies ++ body_in schema change ∷ [])

-- the side of a checkpoint is begun, whose records come to the same
pub record HasBegunSide {D : Type 0} (images : D → List ℕ → Type 0) (schema : Schema) (kept : Durable) (journal : Journal D) : Type 0 where
  pub bodies : List (List ℕ)
  pub added : List (List ℕ)
  pub began : BeganSide images bodies added (seen journal)
  pub list : IsListOf schema kept bodies
  pub added_come : ComeTo schema kept added

-- the journal of what is kept, with the change whose record is begun, where one is
abbrev pub Keeps : {D : Type 0} (images : D → List ℕ → Type 0) → Schema → Durable → Option Change → Journal D → Type 0
Keeps images schema kept None journal = IsAtRest images schema kept journal ⊎ HasBegunSide images schema kept journal
Keeps images schema kept (Some change) journal = HasBegun images schema kept change journal
