use Rattle.std.proofs.Common.{◌≡◌, ◌-◌, length, rules, arith}
use Rattle.std.proofs.lemmas.Result.{err_from_is_err_and}
use Rattle.doc_read.proofs.Enough.{value_enough}
use Rattle.doc_read.proofs.Levels.{until_fails}
use Rattle.doc_read.proofs.value.inside_value.Goals as goal

pub loop-init : goal.loop-init
loop-init c =
    let all : length c.args.cs.now - 0 ≡ length c.args.cs.now = omega arith in
    record { text = search rules; reads = rw (all, c.new-text.ensures.bytes) (value_enough c.args.quote c.args.cs.now) }

pub returns-in_err-is_end : goal.returns-in_err-is_end
returns-in_err-is_end c =
    let p = err_from_is_err_and c.from_residual.result c.from_residual.ensures.1 in
    rw (p.1, p.2) (until_fails _ _ _ _ _ _ c.loop-test.true c.in_err-is_end.ensures c.loop.invariant.reads)
