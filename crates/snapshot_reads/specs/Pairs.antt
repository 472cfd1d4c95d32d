-- Pairs of a front, which is a number of entries, and what outlives the process there; and the history of those that a publisher was given.
use Rattle.std.specs.Prelude.{ℕ, ◌≡◌, ◌+◌, true, List, [], ◌∷◌, ◌++◌, length, slice_get, Some, All}
use Rattle.feature_values.specs.declared.schema.Schema.{Schema}
use Rattle.wfs_model.specs.Kept.{IsKept}
use Rattle.logbook.specs.Pages.{Cell, Step, View, Book, Named}
use Rattle.snapshot_reads.specs.Content.{Content, no_schema}
use Rattle.snapshot_reads.specs.declared.book.Pair.{Pair}

abbrev pub pair : ℕ → Content → Pair
pair front content = record { front = front; content = content }

-- ---- schemas

-- the schema of the first pair
abbrev pub schema_in : List Pair → Schema
schema_in [] = no_schema
schema_in (p ∷ ps) = p.content.schema

-- a pair of this schema, kept well
pub record IsPairOf (schema : Schema) (p : Pair) : Type 0 where
  pub of : p.content.schema ≡ schema
  pub well : IsKept p.content.schema p.content.kept

-- all pairs are of the first one's schema
abbrev pub AreOfOne : List Pair → Type 0
AreOfOne pairs = All (IsPairOf (schema_in pairs)) pairs

-- ---- histories

-- the pair stands in the history, at its front
abbrev pub Stands : List Pair → Pair → Type 0
Stands log p = slice_get log p.front ≡ Some p

-- between any two steps: the word is the place of the last pair, and all pairs are of one schema
pub record IsHistory (cells : List Cell) (log : List Pair) : Type 0 where
  pub last : ℕ
  pub word : cells ≡ (last, true) ∷ []
  pub long : length log ≡ last + 1
  pub pairs : AreOfOne log

abbrev pub head_of : Book → Named
head_of book = record { tracked = true; key = 0; book = book }

-- the pair was added to all that had been seen; or the word was not as expected
abbrev pub Adds : Step Pair → View Pair (Unit {0}) → ℕ → View Pair (Unit {0}) → Type 0
Adds s v found w = found ≡ s.old → w.0 ≡ v.0 ++ s.ask ∷ []

-- the whole history was seen
abbrev pub Looks : Step Pair → View Pair (Unit {0}) → ℕ → View Pair (Unit {0}) → Type 0
Looks s v found w = length w.0 ≡ found + 1
