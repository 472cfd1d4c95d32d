-- What the words ask for.
use Rattle.std.specs.Prelude.{◌≡◌, ℕ, List, Option, Some, None, ⊤}
use Rattle.wfs_words.specs.declared.command.Command.{Command}
use Rattle.wfs_words.specs.declared.command.Command.TheVariants.{Drill}
use Rattle.wfs_words.specs.Words.{asked_of}

-- the words ask for this command, of some directory
abbrev pub AskFor : List (List ℕ) → Command → Type 0
AskFor words c = (directory : List ℕ) × (asked_of words ≡ Some (record { command = c; directory = directory }))

abbrev pub IsDrill : Command → Type 0
IsDrill (Drill rounds) = ⊤
IsDrill other = ⊥

-- how many rounds a drill is to have
abbrev pub rounds_in : Command → Option ℕ
rounds_in (Drill rounds) = Some rounds
rounds_in other = None
