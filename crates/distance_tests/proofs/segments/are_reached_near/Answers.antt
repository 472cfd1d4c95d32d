use Rattle.std.proofs.Common.{sym, ◌∙◌}
use Rattle.distance_tests.proofs.Parted.{reach_apart}
use Rattle.distance_tests.proofs.segments.are_reached_near.Goals as goal

pub returns-then-is_short_of : goal.returns-then-is_short_of
returns-then-is_short_of c =
    reach_apart c.args.d (record { from = c.args.a; to = c.args.b }) (record { from = c.args.e; to = c.args.f }) c.args.reach.now c.requires.reach (sym c.is_short_of.ensures ∙ c.if-is_short_of.true)
