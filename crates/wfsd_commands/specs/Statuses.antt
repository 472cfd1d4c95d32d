-- The lines and the statuses by which commands end.
use Rattle.std.specs.Prelude.{◌≡◌, ◌⊎◌, ℕ, Bool, true, false, List}
use Rattle.durable_journal.specs.declared.fault.OpenFault.{OpenFault}
use Rattle.durable_journal.specs.declared.fault.OpenFault.TheVariants as opening
use Rattle.program_output.specs.Lines.{store_fault, full, no_memory, not_a_journal, not_of_schema}
use Rattle.wfs_ends.specs.Ends.{Shown, GivesAll, GivesFront}
use Rattle.wfs_store.specs.declared.fault.StepFault.{StepFault}
use Rattle.wfs_store.specs.declared.fault.StepFault.TheVariants as step

-- a last line: the status is 0 where it was given whole, and 7 where the output failed
abbrev pub EndsWith : Shown → List ℕ → Shown → ℕ → Type 0
EndsWith old line new status = (GivesAll old line new × (status ≡ 0)) ⊎ (GivesFront old line new × (status ≡ 7))

abbrev pub line_status : Bool → ℕ
line_status true = 7
line_status false = 0

-- ---- a journal that is not opened

abbrev pub unopened_line : OpenFault → List ℕ
unopened_line opening.DiskFault = store_fault
unopened_line (opening.NotAJournal place) = not_a_journal place.second_side place.at
unopened_line (opening.NotOfSchema number) = not_of_schema number
unopened_line (opening.Full sum) = full
unopened_line opening.OutOfMemory = no_memory

abbrev pub unopened_status : OpenFault → ℕ
unopened_status opening.DiskFault = 5
unopened_status (opening.NotAJournal place) = 6
unopened_status (opening.NotOfSchema number) = 6
unopened_status (opening.Full sum) = 11
unopened_status opening.OutOfMemory = 8

-- ---- a store that does not go on

abbrev pub stopped_line : StepFault → List ℕ
stopped_line step.StoreFault = store_fault
stopped_line (step.Full at) = full
stopped_line step.OutOfMemory = no_memory

abbrev pub stopped_status : StepFault → ℕ
stopped_status step.StoreFault = 5
stopped_status (step.Full at) = 11
stopped_status step.OutOfMemory = 8
