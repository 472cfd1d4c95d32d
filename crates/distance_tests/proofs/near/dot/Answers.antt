use Rattle.geom_core.proofs.Numbers.{product-spans}
use Rattle.distance_tests.proofs.Products.{sum-fits, sum-is}
use Rattle.distance_tests.proofs.near.dot.Goals as goal

pub overflow_add-result : goal.overflow_add-result
overflow_add-result c = sum-fits c.product-by_x.result c.product-by_y.result c.product-by_x.ensures.far c.product-by_y.ensures.far

pub returns-clause-value : goal.returns-clause-value
returns-clause-value c = sum-is c.product-by_x.result c.product-by_y.result _ _
    (product-spans _ _ _ _ _ c.product-by_x.ensures.value c.eastward.ensures.value c.eastward-2.ensures.value c.eastward.ensures.far c.eastward-2.ensures.far)
    (product-spans _ _ _ _ _ c.product-by_y.ensures.value c.northward.ensures.value c.northward-2.ensures.value c.northward.ensures.far c.northward-2.ensures.far)
    c.product-by_x.ensures.far c.product-by_y.ensures.far
