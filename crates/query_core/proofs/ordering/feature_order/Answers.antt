use Rattle.std.proofs.Common.{sym, ◌∙◌}
use Rattle.query_core.proofs.Keys.{key_decides, key_ties, no_key_left}
use Rattle.query_core.proofs.ordering.feature_order.Goals as goal

pub returns-then-is_ne : goal.returns-then-is_ne
returns-then-is_ne c =
    key_decides c.args.keys.now c.loop-key.key-index _ c.args.a.now c.args.b.now _ _ c.loop-key-test.true c.key_order-order.ensures (sym c.is_ne.ensures ∙ c.if-is_ne.true) c.loop-key.invariant

pub loop-key-preserved : goal.loop-key-preserved
loop-key-preserved c =
    key_ties c.args.keys.now c.loop-key.key-index _ c.args.a.now c.args.b.now _ _ c.loop-key-test.true c.key_order-order.ensures (sym c.is_ne.ensures ∙ c.if-is_ne.false) c.loop-key.invariant

pub returns : goal.returns
returns c = c.rid_order.ensures ∙ no_key_left c.args.keys.now c.loop-key.key-index c.args.a.now c.args.b.now _ c.loop-key-test.false c.loop-key.invariant
