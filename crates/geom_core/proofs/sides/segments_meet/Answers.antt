use Rattle.std.proofs.Common.{◌≡◌, ◌∙◌, sym, true}
use Rattle.geom_core.specs.Plane.{are_apart, box_between}
use Rattle.geom_core.proofs.Meeting.{apart-no_meet, do_meet-symmetric, touch-meets, cross-meets}
use Rattle.geom_core.proofs.sides.segments_meet.Goals as goal

pub returns-then-is_apart-clause-value : goal.returns-then-is_apart-clause-value
returns-then-is_apart-clause-value c =
    let apart : are_apart (box_between c.args.a c.args.b) (box_between c.args.c c.args.d) ≡ true =
    rw (← c.between.ensures, ← c.between-2.ensures) (sym c.is_apart.ensures ∙ c.if-is_apart.true) in
    sym (apart-no_meet (record { from = c.args.a; to = c.args.b }) (record { from = c.args.c; to = c.args.d }) apart)

pub returns-then-is_apart-clause-symmetric : goal.returns-then-is_apart-clause-symmetric
returns-then-is_apart-clause-symmetric c =
    returns-then-is_apart-clause-value c ∙ do_meet-symmetric (record { from = c.args.a; to = c.args.b }) (record { from = c.args.c; to = c.args.d })

pub returns-then-do_touch-clause-symmetric : goal.returns-then-do_touch-clause-symmetric
returns-then-do_touch-clause-symmetric c =
    touch-meets (record { from = c.args.a; to = c.args.b }) (record { from = c.args.c; to = c.args.d }) c.do_touch.result c.do_touch.ensures c.if-do_touch.true

pub returns-else-do_touch-clause-symmetric : goal.returns-else-do_touch-clause-symmetric
returns-else-do_touch-clause-symmetric c =
    cross-meets (record { from = c.args.a; to = c.args.b }) (record { from = c.args.c; to = c.args.d }) c.do_touch.result c.do_cross.result
    c.do_touch.ensures c.if-do_touch.false c.do_cross.ensures
