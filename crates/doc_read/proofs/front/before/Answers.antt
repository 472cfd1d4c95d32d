use Rattle.doc_read.proofs.Rests.{cut_between, chars_between}
use Rattle.doc_read.proofs.front.before.Goals as goal

pub split_at-requires : goal.split_at-requires
split_at-requires c = cut_between c.args.whole.now c.args.rest.now c.requires c.utf8.rest

pub returns : goal.returns
returns c = chars_between c.args.whole.now c.args.rest.now c.requires c.utf8.whole c.utf8.rest c.split_at.result.0.now c.split_at.ensures.front
