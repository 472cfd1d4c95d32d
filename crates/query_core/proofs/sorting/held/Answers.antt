use Rattle.query_core.proofs.Held.{held_none, held_more, held_absent}
use Rattle.query_core.proofs.sorting.held.Goals as goal

pub loop-id-init : goal.loop-id-init
loop-id-init g c = rw c.in_ok-features.ensures.items (held_none _)

pub loop-id-preserved-in_default : goal.loop-id-preserved-in_default
loop-id-preserved-in_default g c =
    held_absent _ c.args.ids.now c.loop-id.id-index _ _ c.loop-id-test.true c.in_default.ensures.value c.loop-id.invariant

pub loop-id-preserved : goal.loop-id-preserved
loop-id-preserved g c =
    rw c.in_ok-push.ensures.items (held_more (λ f. f.now) _ c.args.ids.now c.loop-id.id-index _ c.loop-id.features.items c.in-Some.feature c.loop-id-test.true c.in-Some.ensures.value c.loop-id.invariant)
