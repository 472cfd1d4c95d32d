use Rattle.std.proofs.Common.{refl}
use Rattle.wfsd_commands.specs.Talk.{no_memory_for_it, talks_with}
use Rattle.wfsd_commands.proofs.Early.{none_left}
use Rattle.wfsd_commands.proofs.conversation.talk_with.Goals as goal

pub returns-in-Ok-clause-talks : goal.returns-in-Ok-clause-talks
returns-in-Ok-clause-talks g c = talks_with c.talk_on.ensures.talks

pub returns-in-Err-clause-talks : goal.returns-in-Err-clause-talks
returns-in-Err-clause-talks g c = no_memory_for_it c.end_for_memory.ensures (record { input = refl; clock = refl })

pub returns-in-Err-clause-left : goal.returns-in-Err-clause-left
returns-in-Err-clause-left g c = none_left _ _ _ _ c.end_for_memory.ensures.leaves
