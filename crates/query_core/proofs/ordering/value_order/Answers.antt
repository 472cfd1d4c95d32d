use Rattle.std.proofs.Common.{◌∙◌}
use Rattle.query_core.proofs.Orders.{one_kind, two_kinds}
use Rattle.query_core.proofs.ordering.value_order.Goals as goal

pub returns-in_default : goal.returns-in_default
returns-in_default c = c.kinds_order.ensures ∙ two_kinds _ _ c.in_default.ensures

pub returns : goal.returns
returns c = one_kind _ _ _ c.in-Some.ensures
