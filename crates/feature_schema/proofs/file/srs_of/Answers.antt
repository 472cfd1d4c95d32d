use Rattle.std.proofs.lemmas.Result.{err_from_is_err_and}
use Rattle.toml.specs.View.{view}
use Rattle.wfs_ends.proofs.Turns.{each_goes_on, each_fails}
use Rattle.feature_schema.specs.File.{srs_step}
use Rattle.feature_schema.proofs.file.srs_of.Goals as goal

pub loop-value-preserved : goal.loop-value-preserved
loop-value-preserved c =
    each_goes_on srs_step view _ _ _ _ _ _ c.loop-value-test.true c.value-item.is c.in_ok-add_srs.ensures c.loop-value.invariant

pub returns-in_err-add_srs : goal.returns-in_err-add_srs
returns-in_err-add_srs c =
    let p = err_from_is_err_and c.from_residual.result c.from_residual.ensures.1 in
    rw (p.1, p.2) (each_fails srs_step view _ _ _ _ _ _ _ c.loop-value-test.true c.value-item.is c.in_err-add_srs.ensures c.loop-value.invariant)
