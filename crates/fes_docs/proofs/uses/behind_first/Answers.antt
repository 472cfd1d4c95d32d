use Rattle.std.proofs.lemmas.Str.Pattern.{strip_prefix_char}
use Rattle.fes_docs.proofs.Edges.{first_is}
use Rattle.fes_docs.proofs.uses.behind_first.Goals as goal

pub returns : goal.returns
returns c = first_is c.args.first c.args.text.now c.strip_prefix.result (strip_prefix_char c.args.first c.args.text.now c.strip_prefix.result c.strip_prefix.ensures.cases c.requires)
