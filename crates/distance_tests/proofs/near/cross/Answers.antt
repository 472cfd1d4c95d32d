use Rattle.geom_core.proofs.Numbers.{product-spans}
use Rattle.distance_tests.proofs.Products.{difference-fits, difference-is, difference-passed-far}
use Rattle.distance_tests.proofs.near.cross.Goals as goal

pub overflow_sub-result : goal.overflow_sub-result
overflow_sub-result c = difference-fits c.product-left.result c.product-right.result c.product-left.ensures.far c.product-right.ensures.far

pub returns-clause-value : goal.returns-clause-value
returns-clause-value c = difference-is c.product-left.result c.product-right.result _ _
    (product-spans _ _ _ _ _ c.product-left.ensures.value c.eastward.ensures.value c.northward.ensures.value c.eastward.ensures.far c.northward.ensures.far)
    (product-spans _ _ _ _ _ c.product-right.ensures.value c.northward-2.ensures.value c.eastward-2.ensures.value c.northward-2.ensures.far c.eastward-2.ensures.far)
    c.product-left.ensures.far c.product-right.ensures.far

pub returns-clause-far : goal.returns-clause-far
returns-clause-far c = difference-passed-far c.product-left.result c.product-right.result c.product-left.ensures.far c.product-right.ensures.far
