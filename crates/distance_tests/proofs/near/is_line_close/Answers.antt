use Rattle.std.proofs.Common.{◌∙◌, ◌*◌, ap, unsigned_abs}
use Rattle.distance_tests.specs.Within.{way, dot, cross, is_line_close}
use Rattle.distance_tests.proofs.Products.{passed, dot-up, line-is}
use Rattle.distance_tests.proofs.near.is_line_close.Goals as goal

pub returns : goal.returns
unfolding is_line_close
returns c = c.is_square_within.ensures ∙ line-is c.unsigned_abs.result (c.args.d * c.args.d) c.unsigned_abs-2.result
    (cross (way c.args.a c.args.p) (way c.args.a c.args.b)) (dot (way c.args.a c.args.b) (way c.args.a c.args.b))
    (c.unsigned_abs.ensures.value ∙ ap unsigned_abs (passed c.cross.result c.cross.ensures.far ∙ c.cross.ensures.value))
    (c.unsigned_abs-2.ensures.value ∙ ap unsigned_abs (passed c.dot.result c.dot.ensures.far ∙ c.dot.ensures.value))
    (dot-up (way c.args.a c.args.b))
