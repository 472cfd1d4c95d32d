use Rattle.std.proofs.lemmas.Result.{err_from_is_err_and}
use Rattle.wfs_ends.proofs.Turns.{each_goes_on, each_fails}
use Rattle.doc_read.specs.declared.fault.DocFault.TheVariants.{OutOfMemory}
use Rattle.doc_read.specs.Lex.{raw_of}
use Rattle.doc_read.specs.Scope.{declared_step}
use Rattle.doc_read.proofs.scope.declared_at.Goals as goal

pub loop-raw-preserved : goal.loop-raw-preserved
loop-raw-preserved c =
    each_goes_on declared_step raw_of _ _ _ _ _ _ c.loop-raw-test.true c.raw-item.is c.in_ok-declare.ensures c.loop-raw.invariant

pub returns-in_err-declare : goal.returns-in_err-declare
returns-in_err-declare c =
    let p = err_from_is_err_and c.from_residual.result c.from_residual.ensures.1 in
    rw (p.1, p.2) (each_fails declared_step raw_of _ _ _ _ _ OutOfMemory _ c.loop-raw-test.true c.raw-item.is c.in_err-declare.ensures c.loop-raw.invariant)
