use Rattle.std.proofs.Common.{rules}
use Rattle.wfsd_commands.proofs.Filling.{longer}
use Rattle.wfsd_commands.proofs.source.read_up_to.Goals as goal

pub returns-in-Whole-clause-read : goal.returns-in-Whole-clause-read
returns-in-Whole-clause-read g c = longer c.fill.new.bytes c.args.most _ _ (search rules) c.in-Whole.ensures.filled
