use Rattle.std.proofs.Common.{rules}
use Rattle.std.proofs.lemmas.Str.{encodes-chars}
use Rattle.doc_read.proofs.value.text_of.Goals as goal

pub returns : goal.returns
returns c = rw (encodes-chars c.args.cs.now c.utf8.cs) (search rules)
