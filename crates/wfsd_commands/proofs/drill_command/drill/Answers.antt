use Rattle.std.proofs.Common.{refl}
use Rattle.wfsd_commands.specs.Drilled.{refused, forgotten}
use Rattle.wfsd_commands.proofs.Asked.{ask_for, drills_if}
use Rattle.wfsd_commands.proofs.Early.{none_left}
use Rattle.wfsd_commands.proofs.drill_command.drill.Goals as goal

pub returns-in-Ok-clause-drills : goal.returns-in-Ok-clause-drills
returns-in-Ok-clause-drills g c = drills_if _ _ c.in-Ok.command _ _ _ _ (ask_for _ c.in-Ok.command c.in-Ok.ensures.command) c.drill_by.ensures.drills

pub returns-in-Err-Refused-clause-drills : goal.returns-in-Err-Refused-clause-drills
returns-in-Err-Refused-clause-drills g c = refused (c.in-Err-Refused.ensures.refused (rw c.in-Err-Refused.field-0-is refl)) (record { schema = refl; ends = c.end_for_words.ensures })

pub returns-in-Err-Refused-clause-left : goal.returns-in-Err-Refused-clause-left
returns-in-Err-Refused-clause-left g c = none_left _ _ _ _ c.end_for_words.ensures.leaves

pub returns-in-Err-OutOfMemory-clause-drills : goal.returns-in-Err-OutOfMemory-clause-drills
returns-in-Err-OutOfMemory-clause-drills g c = forgotten (record { schema = refl; ends = c.end_for_memory.ensures })

pub returns-in-Err-OutOfMemory-clause-left : goal.returns-in-Err-OutOfMemory-clause-left
returns-in-Err-OutOfMemory-clause-left g c = none_left _ _ _ _ c.end_for_memory.ensures.leaves
