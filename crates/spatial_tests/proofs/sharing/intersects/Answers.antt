use Rattle.std.proofs.Common.{◌∙◌, sym}
use Rattle.spatial_tests.proofs.Apart.{apart-no_share, do_intersect-symmetric}
use Rattle.spatial_tests.proofs.sharing.intersects.Goals as goal

pub returns-then-is_apart-clause-value : goal.returns-then-is_apart-clause-value
returns-then-is_apart-clause-value c =
    apart-no_share c.args.a.now c.args.b.now c.bounds.result c.bounds-2.result c.bounds.ensures.least c.bounds-2.ensures.least
    c.bounds.ensures.area c.bounds-2.ensures.area (sym c.is_apart.ensures ∙ c.if-is_apart.true)

pub returns-then-is_apart-clause-symmetric : goal.returns-then-is_apart-clause-symmetric
returns-then-is_apart-clause-symmetric c = returns-then-is_apart-clause-value c ∙ do_intersect-symmetric c.args.a.now c.args.b.now

pub returns-clause-symmetric : goal.returns-clause-symmetric
returns-clause-symmetric c = c.do_share.ensures ∙ do_intersect-symmetric c.args.a.now c.args.b.now
