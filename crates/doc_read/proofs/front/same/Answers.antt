use Rattle.std.proofs.Common.{◌∙◌}
use Rattle.doc_read.proofs.Rests.{same_bytes}
use Rattle.doc_read.proofs.front.same.Goals as goal

pub returns : goal.returns
returns c = c.eq.ensures ∙ same_bytes c.args.a.now c.args.b.now c.utf8.a c.utf8.b
