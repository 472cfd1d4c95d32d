-- What the two files of a journal stand for, in terms of what outlives the process.
use Rattle.std.specs.Prelude.{◌≡◌, ◌⊎◌, ℕ, ◌+◌, List, All, Option, Some, None, Ok}
use Rattle.feature_journal.specs.Whole.{Says}
use Rattle.feature_values.specs.declared.schema.Schema.{Schema}
use Rattle.journal_replay.specs.Replayed.{replayed}
use Rattle.wfs_model.specs.declared.change.Change.{Change}
use Rattle.wfs_model.specs.declared.change.Change.TheVariants.{Opening}
use Rattle.wfs_model.specs.State.{Durable}
use Rattle.wfs_model.specs.Played.{played_one}

-- the bodies of a journal come to this
abbrev pub ComeTo : Schema → Durable → List (List ℕ) → Type 0
ComeTo schema kept bodies = replayed schema bodies ≡ Ok kept

-- An image of two files is whole, and what it says comes to this.
pub record SaysKept (schema : Schema) (kept : Durable) (a b : List ℕ) : Type 0 where
  pub lists : List (List (List ℕ))
  pub says : Says lists a b
  pub come : All (ComeTo schema kept) lists

-- the same, or with the change that is begun, where one is
abbrev pub SaysWith : Schema → Durable → (begun : Option Change) → List ℕ → List ℕ → Type 0
SaysWith schema kept None a b = SaysKept schema kept a b
SaysWith schema kept (Some change) a b = SaysKept schema kept a b ⊎ SaysKept schema (played_one kept change) a b

-- what a crash may leave while a change is made, where another one may be begun
abbrev pub SaysEither : Schema → Durable → (begun made : Option Change) → List ℕ → List ℕ → Type 0
SaysEither schema kept begun made a b = SaysWith schema kept begun a b ⊎ SaysWith schema kept made a b

-- the next opening of what is kept
abbrev pub next_opening : Durable → Change
next_opening kept = Opening (kept.opening + 1)

-- what a crash may leave while a journal is opened: what is kept, or it with the next opening
abbrev pub SaysOpened : Schema → Durable → List ℕ → List ℕ → Type 0
SaysOpened schema kept a b = SaysWith schema kept (Some (next_opening kept)) a b
