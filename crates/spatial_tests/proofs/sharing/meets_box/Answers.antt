use Rattle.std.proofs.Common.{◌∙◌, sym}
use Rattle.spatial_tests.proofs.Apart.{apart-no_meet_box}
use Rattle.spatial_tests.proofs.sharing.meets_box.Goals as goal

pub returns-then-is_apart : goal.returns-then-is_apart
returns-then-is_apart c =
    apart-no_meet_box c.args.g.now c.bounds.result c.args.area.now c.bounds.ensures.least c.bounds.ensures.area
    (rw (← c.area.view_is) c.area.invariant) (sym c.is_apart.ensures ∙ c.if-is_apart.true)
