use Rattle.std.proofs.Common.{◌∙◌}
use Rattle.doc_tree.proofs.Listed.{list_any_now}
use Rattle.doc_tree.proofs.attributes.is_among.Goals as goal

pub returns : goal.returns
returns c = c.any_is.ensures ∙ list_any_now c.args.name.now c.args.names.now
