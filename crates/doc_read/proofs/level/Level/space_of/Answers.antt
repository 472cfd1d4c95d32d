use Rattle.std.proofs.Common.{◌∙◌}
use Rattle.doc_read.proofs.level.Level.space_of.Goals as goal

pub returns-in-Some : goal.returns-in-Some
returns-in-Some c = c.get.ensures.value ∙ c.args.self.now.looked_up c.in-Some.spaces c.in-Some.is c.args.prefix.now
