-- Why a journal is not opened, by what its parts answer.
use Rattle.recovery.specs.declared.fault.RecoverFault.{RecoverFault}
use Rattle.recovery.specs.declared.fault.RecoverFault.TheVariants as recovering
use Rattle.checkpoints.specs.declared.fault.CompactFault.{CompactFault}
use Rattle.checkpoints.specs.declared.fault.CompactFault.TheVariants as compacting
use Rattle.feature_journal.specs.declared.fault.AppendFault.{AppendFault}
use Rattle.feature_journal.specs.declared.fault.AppendFault.TheVariants as appending
use Rattle.durable_journal.specs.declared.fault.OpenFault.{OpenFault}
use Rattle.durable_journal.specs.declared.fault.OpenFault.TheVariants.{DiskFault, NotAJournal, NotOfSchema, Full, OutOfMemory}

abbrev pub from_recovery : RecoverFault → OpenFault
from_recovery recovering.DiskFault = DiskFault
from_recovery (recovering.NotAJournal place) = NotAJournal place
from_recovery (recovering.NotOfSchema number) = NotOfSchema number
from_recovery (recovering.Full sum) = Full sum
from_recovery recovering.OutOfMemory = OutOfMemory

abbrev pub from_checkpoint : CompactFault → OpenFault
from_checkpoint compacting.DiskFault = DiskFault
from_checkpoint (compacting.Full sum) = Full sum
from_checkpoint compacting.OutOfMemory = OutOfMemory

abbrev pub from_append : AppendFault → OpenFault
from_append appending.DiskFault = DiskFault
from_append (appending.Full sum) = Full sum
