use Rattle.std.proofs.Common.{refl}
use Rattle.wfsd_commands.proofs.Early.{none_left}
use Rattle.wfsd_commands.proofs.drill_command.drill_by.Goals as goal

pub returns-in-Some-clause-drills : goal.returns-in-Some-clause-drills
returns-in-Some-clause-drills g c = rw (← c.in-Some.ensures) c.drill_rounds.ensures.drills

pub returns-in-None-clause-drills : goal.returns-in-None-clause-drills
returns-in-None-clause-drills g c = rw (← c.in-None.ensures) (record { schema = refl; ends = c.end_for_words.ensures })

pub returns-in-None-clause-left : goal.returns-in-None-clause-left
returns-in-None-clause-left g c = none_left _ _ _ _ c.end_for_words.ensures.leaves
