use Rattle.std.proofs.Common.{sym, ◌∙◌}
use Rattle.distance_tests.proofs.Parted.{geometries_apart}
use Rattle.distance_tests.proofs.within.within_distance.Goals as goal

pub returns-then-are_farther : goal.returns-then-are_farther
returns-then-are_farther c =
    geometries_apart c.args.d c.args.a.now c.args.b.now c.bounds.result c.bounds-2.result c.bounds.ensures.least c.bounds-2.ensures.least
    c.bounds.ensures.area c.bounds-2.ensures.area (sym c.are_farther.ensures ∙ c.if-are_farther.true)
