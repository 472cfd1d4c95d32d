use Rattle.std.proofs.Common.{◌∙◌, sym}
use Rattle.geom_core.proofs.Walks.{place_on, place_within, place_outside}
use Rattle.geom_core.proofs.placing.walk.Goals as goal

pub returns-then-is_on : goal.returns-then-is_on
returns-then-is_on c = place_on _ _ _ _ _ _ _ c.loop-next-test.true c.next-item.is c.loop-next.invariant.walked (sym c.is_on.ensures ∙ c.if-is_on.true)

pub returns-then-crossed-eq1 : goal.returns-then-crossed-eq1
returns-then-crossed-eq1 c = place_within _ _ _ _ _ _ c.loop-next-test.false c.loop-next.invariant.walked c.if-crossed-eq1.true

pub returns-else-crossed-eq1 : goal.returns-else-crossed-eq1
returns-else-crossed-eq1 c = place_outside _ _ _ _ _ _ c.loop-next-test.false c.loop-next.invariant.walked c.if-crossed-eq1.false
