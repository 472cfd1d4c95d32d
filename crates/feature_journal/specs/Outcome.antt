-- What is on the disk after a record was to be written.
use Rattle.std.specs.Prelude.{List, ℕ, ◌++◌}
use Rattle.feature_journal.specs.declared.side.Append.{Append}
use Rattle.feature_journal.specs.declared.side.Append.TheVariants.{Done, Clean, Begun}
use Rattle.feature_journal.specs.Side as side

abbrev pub After : Append → List ℕ → List ℕ → List ℕ → Type 0
After Done front body c = side.Closed (front ++ side.opened body) c
After Clean front body c = side.Closed front c
After Begun front body c = side.Begun front body c
