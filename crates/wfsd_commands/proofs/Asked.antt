-- What words ask for, by the command that was read of them.
use Rattle.std.proofs.Common.{◌≡◌, ℕ, List, Option, Some, None, refl, ap}
use Rattle.std.specs.Prelude.{option_map}
use Rattle.disk_core.specs.declared.disk.Disk.{Ghosts as DiskMeaning}
use Rattle.disk_core.specs.declared.pair.Pair.{Pair}
use Rattle.wfs_words.specs.declared.command.Command.{Command}
use Rattle.wfs_words.specs.declared.command.Command.TheVariants as command
use Rattle.wfs_words.specs.Words.{Asked, asked_of}
use Rattle.wfsd_commands.specs.declared.done.Done.{Done}
use Rattle.wfsd_commands.specs.Asking.{AskFor, rounds_in}
use Rattle.wfsd_commands.specs.Drilled.{DrillsIf, DrillsBy, no_drill, drills}
use Rattle.wfsd_commands.specs.Early.{Ends}

abbrev inside : Command → Option Command → Command
inside c None = c
inside c (Some d) = d

some_asked : (asked : Option Asked) (c : Command) → option_map (λ (a : Asked). a.command) asked ≡ Some c → (directory : List ℕ) × (asked ≡ Some (record { command = c; directory = directory }))
some_asked None c e = absurd cc
some_asked (Some a) c e =
    let is : a.command ≡ c = ap (inside c) e in
    (a.directory, rw (← is) refl)

pub ask_for : (words : List (List ℕ)) (c : Command) → option_map (λ (a : Asked). a.command) (asked_of words) ≡ Some c → AskFor words c
ask_for words c e = some_asked (asked_of words) c e

-- what a drill comes to by the command
pub drills_if : {D : Type 0} (mean : DiskMeaning D) (words : List (List ℕ)) (c : Command) (disks : Pair D) (old : Ends) (done : Done D) (new : Ends) → AskFor words c → DrillsIf mean (rounds_in c) disks old done new
    → DrillsBy mean words disks old done new
drills_if mean words (command.Drill rounds) disks old done new asked is = drills rounds asked is
drills_if mean words command.Talk disks old done new asked is = no_drill command.Talk asked (λ h. h) is
drills_if mean words command.Check disks old done new asked is = no_drill command.Check asked (λ h. h) is
drills_if mean words command.Compact disks old done new asked is = no_drill command.Compact asked (λ h. h) is
drills_if mean words (command.Serve listen workers connections) disks old done new asked is = no_drill (command.Serve listen workers connections) asked (λ h. h) is
