use Rattle.std.proofs.lemmas.Str.Pattern.{strip_suffix_char}
use Rattle.fes_docs.proofs.Edges.{last_is}
use Rattle.fes_docs.proofs.uses.before_last.Goals as goal

pub returns : goal.returns
returns c = last_is c.args.last c.args.text.now c.strip_suffix.result (strip_suffix_char c.args.last c.args.text.now c.strip_suffix.result c.strip_suffix.ensures.cases c.requires)
