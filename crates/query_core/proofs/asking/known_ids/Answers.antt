use Rattle.query_core.proofs.Once.{known_none, known_more, known_absent}
use Rattle.query_core.proofs.asking.known_ids.Goals as goal

pub loop-reference-init : goal.loop-reference-init
loop-reference-init c = rw c.new-ids.ensures.items known_none

pub loop-reference-preserved-in_default : goal.loop-reference-preserved-in_default
loop-reference-preserved-in_default c =
    known_absent c.args.references.now c.loop-reference.reference-index _ c.loop-reference.ids.items c.loop-reference-test.true c.in_default.ensures c.loop-reference.invariant

pub loop-reference-preserved : goal.loop-reference-preserved
loop-reference-preserved c =
    rw c.in_ok-push.ensures.items (known_more c.args.references.now c.loop-reference.reference-index _ c.loop-reference.ids.items c.in-Some.id c.loop-reference-test.true c.in-Some.ensures c.loop-reference.invariant)
