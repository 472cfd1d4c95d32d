use Rattle.std.proofs.Common.{sym, ◌∙◌}
use Rattle.query_core.proofs.Held.{held_none}
use Rattle.stored_queries.proofs.Turns.{one_more_held}
use Rattle.stored_queries.proofs.collecting.held.Goals as goal

pub loop-id-init : goal.loop-id-init
loop-id-init g c = rw c.in_ok-found.ensures.items (held_none _)

pub loop-id-preserved : goal.loop-id-preserved
loop-id-preserved g c =
    c.in_ok-add_copy.ensures ∙ rw (c.get.ensures.value, c.loop-id.invariant) (sym (one_more_held _ c.args.ids.now c.loop-id.id-index _ c.loop-id-test.true))
