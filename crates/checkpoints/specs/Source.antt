-- What a source of records gives, and what a fault makes of a checkpoint.
use Rattle.std.specs.Prelude.{◌≡◌, ◌∷◌, ℕ, List, [], Bool, true, false}
use Rattle.feature_journal.specs.declared.fault.AppendFault.{AppendFault}
use Rattle.feature_journal.specs.declared.fault.AppendFault.TheVariants as append_faults
use Rattle.checkpoints.specs.declared.fault.CompactFault.{CompactFault}
use Rattle.checkpoints.specs.declared.fault.CompactFault.TheVariants as faults

-- the first of the bodies that were left, or none where none was
abbrev pub Gives : (is_one : Bool) (old : List (List ℕ)) (body : List ℕ) (new : List (List ℕ)) → Type 0
Gives true old body new = old ≡ body ∷ new
Gives false old body new = (old ≡ []) × (new ≡ [])

abbrev pub fault_from : AppendFault → CompactFault
fault_from append_faults.DiskFault = faults.DiskFault
fault_from (append_faults.Full sum) = faults.Full sum
