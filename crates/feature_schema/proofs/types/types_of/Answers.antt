use Rattle.std.proofs.lemmas.Result.{err_from_is_err_and}
use Rattle.toml.specs.View.{view}
use Rattle.wfs_ends.proofs.Turns.{each_goes_on, each_fails}
use Rattle.feature_schema.specs.File.{type_step}
use Rattle.feature_schema.proofs.types.types_of.Goals as goal

pub loop-value-preserved : goal.loop-value-preserved
loop-value-preserved c =
    each_goes_on type_step view _ _ _ _ _ _ c.loop-value-test.true c.value-item.is c.in_ok-add_type.ensures c.loop-value.invariant

pub returns-in_err-add_type : goal.returns-in_err-add_type
returns-in_err-add_type c =
    let p = err_from_is_err_and c.from_residual.result c.from_residual.ensures.1 in
    rw (p.1, p.2) (each_fails type_step view _ _ _ _ _ _ _ c.loop-value-test.true c.value-item.is c.in_err-add_type.ensures c.loop-value.invariant)
