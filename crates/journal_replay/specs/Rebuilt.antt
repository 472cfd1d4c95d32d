-- What contracts see of a replay, and what holds of its parts.
use Rattle.std.specs.Prelude.{◌≡◌, ℕ, List, length, Option, Some, None, Ok}
use Rattle.feature_values.specs.declared.schema.Schema.{Schema}
use Rattle.feature_schema.specs.Signature.{signature_text}
use Rattle.feature_versions.specs.Holding.{Holding}
use Rattle.wfs_model.specs.State.{nothing}
use Rattle.journal_replay.specs.Replayed.{replayed}

pub record Rebuilt : Type 0 where
  pub schema : Schema
  -- the bodies that were taken since the last restart
  pub taken : List (List ℕ)

-- what was played on last, or what there is before any body
abbrev pub state_of : Holding → Option Holding → Holding
state_of empty None = empty
state_of empty (Some played) = played

-- the state is what the bodies come to
pub record IsRebuilt (signature : List ℕ) (empty : Holding) (played : Option Holding) (taken : List (List ℕ)) : Type 0 where
  pub signed : signature ≡ signature_text empty.schema
  pub begun : empty.kept ≡ nothing (length empty.schema.types)
  pub schema : (state_of empty played).schema ≡ empty.schema
  pub come : replayed empty.schema taken ≡ Ok (state_of empty played).kept
