use Rattle.std.specs.Str.{chars}
use Rattle.doc_read.proofs.Fronts.{split_front_is}
use Rattle.doc_read.proofs.lex.split_front.Goals as goal

pub returns : goal.returns
returns c = split_front_is c.args.class (chars c.args.text.now) (chars c.before-2.result.now) (chars c.skip-rest.result.now) c.before-2.ensures c.skip-rest.ensures.chars
