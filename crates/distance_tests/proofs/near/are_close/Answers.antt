use Rattle.std.proofs.Common.{◌∙◌, ◌*◌, ap, unsigned_abs}
use Rattle.distance_tests.specs.Within.{way, dot, are_close}
use Rattle.distance_tests.proofs.Products.{passed, dot-up, close-is}
use Rattle.distance_tests.proofs.near.are_close.Goals as goal

pub returns : goal.returns
unfolding are_close
returns c = close-is c.unsigned_abs.result (c.args.d * c.args.d) (dot (way c.args.p c.args.q) (way c.args.p c.args.q))
    (c.unsigned_abs.ensures.value ∙ ap unsigned_abs (passed c.dot.result c.dot.ensures.far ∙ c.dot.ensures.value))
    (dot-up (way c.args.p c.args.q))
