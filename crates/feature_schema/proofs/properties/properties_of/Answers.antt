use Rattle.std.proofs.lemmas.Result.{err_from_is_err_and}
use Rattle.toml.specs.View.{view}
use Rattle.wfs_ends.proofs.Turns.{each_goes_on, each_fails}
use Rattle.feature_schema.specs.File.{property_step}
use Rattle.feature_schema.proofs.properties.properties_of.Goals as goal

pub loop-value-preserved : goal.loop-value-preserved
loop-value-preserved c =
    each_goes_on property_step view _ _ _ _ _ _ c.loop-value-test.true c.value-item.is c.in_ok-add_property.ensures c.loop-value.invariant

pub returns-in_err-add_property : goal.returns-in_err-add_property
returns-in_err-add_property c =
    let p = err_from_is_err_and c.from_residual.result c.from_residual.ensures.1 in
    rw (p.1, p.2) (each_fails property_step view _ _ _ _ _ _ _ c.loop-value-test.true c.value-item.is c.in_err-add_property.ensures c.loop-value.invariant)
