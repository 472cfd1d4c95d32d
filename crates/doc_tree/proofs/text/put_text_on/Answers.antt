use Rattle.std.proofs.Common.{sym, ◌∙◌}
use Rattle.doc_tree.proofs.Escapes.{allowed_escaped}
use Rattle.doc_tree.proofs.text.put_text_on.Goals as goal

pub returns-then-all_allowed : goal.returns-then-all_allowed
returns-then-all_allowed g c = rw (allowed_escaped c.args.in_value c.args.text.now c.utf8.text (sym c.all_allowed.ensures ∙ c.if-all_allowed.true), ← c.as_bytes.ensures.value) c.put_bytes.ensures
