-- What is left of a checkpoint of which some records were given.
use Rattle.std.specs.Prelude.{◌≡◌, List, [], ◌∷◌, ◌++◌, drop, filter, map, Option, Some, None}
use Rattle.feature_values.specs.declared.feature.Feature.{Feature}
use Rattle.feature_values.specs.declared.feature.Rid.{Rid}
use Rattle.feature_values.specs.declared.schema.Schema.{Schema}
use Rattle.fes_filter.specs.View.{is_before}
use Rattle.wfs_model.specs.declared.change.Change.{Change}
use Rattle.wfs_model.specs.State.{Durable}
use Rattle.journal_replay.specs.declared.checkpoint.Place.{Place}
use Rattle.journal_replay.specs.declared.checkpoint.Place.TheVariants.{Start, Rows, Stored}
use Rattle.journal_replay.specs.Checkpoint.{rows_of, created_one, checkpoint_of}

-- what contracts see of a source: the schema, and the changes whose bodies are left
pub record Checkpointing : Type 0 where
  pub schema : Schema
  pub left : List Change

-- the features behind an identifier, or all of them
abbrev pub behind : Option Rid → List Feature → List Feature
behind None features = features
behind (Some id) features = filter (λ f. is_before id f.id) features

-- all changes; the features behind one, and the stored queries; the stored queries from a place on
abbrev pub changes_left : Durable → Place → List Change
changes_left kept Start = checkpoint_of kept
changes_left kept (Rows after) = rows_of (behind after kept.features) ++ map created_one kept.stored
changes_left kept (Stored place) = map created_one (drop place kept.stored)

-- the first of the changes that are left, with what is left behind it, or none
abbrev pub IsNext : Durable → Place → Option (Change × Place) → Type 0
IsNext kept place None = changes_left kept place ≡ []
IsNext kept place (Some next) = changes_left kept place ≡ next.0 ∷ changes_left kept next.1
