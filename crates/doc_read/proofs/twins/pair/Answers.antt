use Rattle.std.proofs.Common.{rules}
use Rattle.std.proofs.lemmas.Str.{encodes-chars}
use Rattle.doc_read.proofs.twins.pair.Goals as goal

pub returns : goal.returns
returns c = rw (encodes-chars c.args.prefix.now c.utf8.prefix, encodes-chars c.args.local.now c.utf8.local) (search rules)
