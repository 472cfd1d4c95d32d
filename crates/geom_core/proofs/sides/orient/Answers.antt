use Rattle.std.proofs.Common.{arith}
use Rattle.std.proofs.lemmas.Int.{ints}
use Rattle.geom_core.proofs.Numbers.{sign-above, sign-below, sign-same, product-spans}
use Rattle.geom_core.proofs.sides.orient.Goals as goal

pub returns-then-left-right : goal.returns-then-left-right
returns-then-left-right c = sign-above _ _ _ c.product-left.result c.product-right.result
    (product-spans _ _ _ _ _ c.product-left.ensures c.eastward.ensures.value c.northward.ensures.value c.eastward.ensures.far c.northward.ensures.far)
    (product-spans _ _ _ _ _ c.product-right.ensures c.northward-2.ensures.value c.eastward-2.ensures.value c.northward-2.ensures.far c.eastward-2.ensures.far)
    (omega (arith, ints))

pub returns-then-left-right-2 : goal.returns-then-left-right-2
returns-then-left-right-2 c = sign-below _ _ _ c.product-left.result c.product-right.result
    (product-spans _ _ _ _ _ c.product-left.ensures c.eastward.ensures.value c.northward.ensures.value c.eastward.ensures.far c.northward.ensures.far)
    (product-spans _ _ _ _ _ c.product-right.ensures c.northward-2.ensures.value c.eastward-2.ensures.value c.northward-2.ensures.far c.eastward-2.ensures.far)
    (omega (arith, ints))

pub returns-else-left-right-2 : goal.returns-else-left-right-2
returns-else-left-right-2 c = sign-same _ _ _ c.product-left.result c.product-right.result
    (product-spans _ _ _ _ _ c.product-left.ensures c.eastward.ensures.value c.northward.ensures.value c.eastward.ensures.far c.northward.ensures.far)
    (product-spans _ _ _ _ _ c.product-right.ensures c.northward-2.ensures.value c.eastward-2.ensures.value c.northward-2.ensures.far c.eastward-2.ensures.far)
    (omega (arith, ints)) (omega (arith, ints))
