use Rattle.std.proofs.Common.{◌≡◌, false, sym, subst, ◌∙◌}
use Rattle.std.specs.Str.{chars}
use Rattle.std.proofs.lemmas.Str.{encodes-chars, encodes_same}
use Rattle.doc_read.specs.Read.{Gives}
use Rattle.doc_read.specs.Document.{line_feeds, tree_at}
use Rattle.doc_read.proofs.Text.{lines_stay}
use Rattle.doc_read.proofs.document.tree_of.Goals as goal

pub returns : goal.returns
returns c = subst (λ cs. Gives c.tree_at-2.result (tree_at cs)) (sym (lines_stay (chars c.args.cs.now) (sym c.has.ensures ∙ c.if-has.false))) c.tree_at-2.ensures

pub returns-then-has : goal.returns-then-has
returns-then-has c =
    let same : chars c.as_str.result.now ≡ line_feeds false (chars c.args.cs.now) =
    encodes_same _ _ (encodes-chars c.as_str.result.now c.as_str.utf8 ∙ c.as_str.ensures.value ∙ c.in_ok-lines.ensures) in
    subst (λ cs. Gives c.tree_at.result (tree_at cs)) same c.tree_at.ensures
