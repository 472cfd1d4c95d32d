use Rattle.std.proofs.Common.{refl}
use Rattle.wfsd_commands.specs.Talk.{early, talks}
use Rattle.wfsd_commands.proofs.Early as ends
use Rattle.wfsd_commands.proofs.conversation.talk.Goals as goal

pub returns-in-Ok-clause-talks : goal.returns-in-Ok-clause-talks
returns-in-Ok-clause-talks g c = talks c.in-Ok.schema (ends.has_loaded c.in-Ok.schema _ _ c.in-Ok.ensures.loaded c.in-Ok.ensures.calm) c.talk_with.ensures.talks

pub returns-in-Err-clause-talks : goal.returns-in-Err-clause-talks
returns-in-Err-clause-talks g c = early (ends.early _ _ _ c.in-Err.unloaded _ c.in-Err.ensures.loaded c.in-Err.ensures.calm c.end_unloaded.ensures) (record { input = refl; clock = refl })

pub returns-in-Err-clause-left : goal.returns-in-Err-clause-left
returns-in-Err-clause-left g c = ends.none_early _ _ _ _ c.in-Err.unloaded _ c.end_unloaded.ensures
