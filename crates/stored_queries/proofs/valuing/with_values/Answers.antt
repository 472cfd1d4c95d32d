use Rattle.std.proofs.Common.{ap}
use Rattle.query_core.proofs.Held.{held_none}
use Rattle.stored_queries.proofs.Turns.{value_absent, value_fails, value_passes}
use Rattle.wfs_model.specs.Read.{has_value}
use Rattle.std.proofs.Common.{filter, sym, ◌∙◌}
use Rattle.stored_queries.proofs.valuing.with_values.Goals as goal

pub loop-id-init : goal.loop-id-init
loop-id-init g c = rw c.in_ok-found.ensures.items (ap (filter (has_value c.args.kind c.args.property)) (held_none _))

pub loop-id-preserved-in_default : goal.loop-id-preserved-in_default
loop-id-preserved-in_default g c =
    value_absent (has_value c.args.kind c.args.property) _ c.args.ids.now c.loop-id.id-index _ _ c.loop-id-test.true c.in_default.ensures.value c.loop-id.invariant

pub loop-id-preserved-then-not-has_value : goal.loop-id-preserved-then-not-has_value
loop-id-preserved-then-not-has_value g c =
    value_fails (has_value c.args.kind c.args.property) _ c.args.ids.now c.loop-id.id-index _ _ c.in-Some.feature.now c.loop-id-test.true c.in-Some.ensures.value (sym c.has_value.ensures ∙ c.if-not-has_value.true) c.loop-id.invariant

pub loop-id-preserved : goal.loop-id-preserved
loop-id-preserved g c =
    rw c.in_ok-push.ensures.items (value_passes (λ f. f.now) (has_value c.args.kind c.args.property) _ c.args.ids.now c.loop-id.id-index _ c.loop-id.found.items c.in-Some.feature c.loop-id-test.true c.in-Some.ensures.value (sym c.has_value.ensures ∙ c.if-not-has_value.false) c.loop-id.invariant)
