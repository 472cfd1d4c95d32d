use Rattle.std.proofs.Common.{arith}
use Rattle.std.proofs.lemmas.Result.{err_from_is_err_and}
use Rattle.wfs_requests.proofs.Each.{met_so_far, not_met}
use Rattle.wfs_requests.proofs.features.all_met.Goals as goal

pub loop-i-preserved : goal.loop-i-preserved
loop-i-preserved c = met_so_far c.args.properties.now c.args.met.now c.loop-i.i _ _ _ (omega arith) (omega (arith, c.requires)) c.index-properties-i.is _ c.in_ok-one_met.ensures c.loop-i.invariant

pub returns-in_err-one_met : goal.returns-in_err-one_met
returns-in_err-one_met c =
    let p = err_from_is_err_and c.from_residual.result c.from_residual.ensures.1 in
    rw (p.1, p.2) (not_met c.args.properties.now c.args.met.now c.loop-i.i _ _ _ (omega arith) (omega (arith, c.requires)) c.index-properties-i.is _ _ c.in_err-one_met.ensures c.loop-i.invariant)
