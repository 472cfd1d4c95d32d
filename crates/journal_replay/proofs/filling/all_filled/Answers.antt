use Rattle.std.proofs.Common.{Ok, sym, ap, ◌∙◌}
use Rattle.std.proofs.lemmas.Result.{err_from_is_err_and}
use Rattle.gml_docs.proofs.Loops.{goes_on, fails, ends}
use Rattle.journal_replay.specs.Change.{next_filled}
use Rattle.journal_replay.proofs.filling.all_filled.Goals as goal

pub loop-one-preserved : goal.loop-one-preserved
loop-one-preserved c = goes_on (next_filled c.args.schema.now) _ _ _ _ _ c.loop-one-test.true c.one-item.is _ c.in_ok-fill_one.ensures c.loop-one.invariant

pub returns-in_err-fill_one : goal.returns-in_err-fill_one
returns-in_err-fill_one c =
    let p = err_from_is_err_and c.from_residual.result c.from_residual.ensures.1 in
    rw (p.1, p.2) (fails (next_filled c.args.schema.now) _ _ _ _ _ c.loop-one-test.true c.one-item.is _ _ c.in_err-fill_one.ensures c.loop-one.invariant)

pub returns : goal.returns
returns c = sym c.loop-one.invariant ∙ ends (next_filled c.args.schema.now) _ _ _ c.loop-one-test.false ∙ ap Ok (sym c.of.ensures)
