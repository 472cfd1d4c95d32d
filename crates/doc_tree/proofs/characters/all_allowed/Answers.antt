use Rattle.std.proofs.Common.{sym, ap, ◌∙◌}
use Rattle.std.specs.List.{list_all}
use Rattle.doc_tree.specs.Characters.{is_plain}
use Rattle.doc_tree.proofs.Escapes.{plain_bytes}
use Rattle.doc_tree.proofs.characters.all_allowed.Goals as goal

pub returns-then-all_plain : goal.returns-then-all_plain
returns-then-all_plain c =
    sym (plain_bytes c.args.text.now c.utf8.text (ap (list_all is_plain) (sym c.as_bytes.ensures.value) ∙ sym c.all_plain.ensures ∙ c.if-all_plain.true))
