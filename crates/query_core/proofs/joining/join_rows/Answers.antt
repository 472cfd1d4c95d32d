use Rattle.std.proofs.Common.{sym, ◌∙◌}
use Rattle.query_core.proofs.Joins.{joined_by, joined_none}
use Rattle.query_core.proofs.joining.join_rows.Goals as goal

pub returns-then-is_empty : goal.returns-then-is_empty
returns-then-is_empty c = joined_none c.args.ids c.items.result.now c.args.more c.items.ensures (sym c.is_empty.ensures ∙ c.if-is_empty.true)

pub returns : goal.returns
returns c =
    c.of.ensures
    ∙ c.in_ok-all.ensures
    ∙ rw (c.into_items.ensures, c.deref.ensures.value, c.items-3.ensures)
    (joined_by c.args.ids c.in_ok-sorted.sorted.items c.args.more (rw c.items-2.ensures at c.in_ok-sorted.ensures.permutation))
