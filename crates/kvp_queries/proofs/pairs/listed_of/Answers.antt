use Rattle.std.proofs.Common.{sym, ◌∙◌}
use Rattle.std.proofs.lemmas.Result.{err_from_is_err_and}
use Rattle.gml_docs.proofs.Loops.{goes_on, fails, ends}
use Rattle.kvp_queries.specs.Pairs.{next_listed, listed_of}
use Rattle.kvp_queries.proofs.pairs.listed_of.Goals as goal

pub loop-pair-preserved : goal.loop-pair-preserved
loop-pair-preserved c = goes_on next_listed _ _ _ _ _ c.loop-pair-test.true c.pair-item.is _ c.in_ok-add_listed.ensures c.loop-pair.invariant

pub returns-in_err-add_listed : goal.returns-in_err-add_listed
unfolding listed_of
returns-in_err-add_listed c =
    let p = err_from_is_err_and c.from_residual.result c.from_residual.ensures.1 in
    rw (p.1, p.2) (fails next_listed _ _ _ _ _ c.loop-pair-test.true c.pair-item.is _ _ c.in_err-add_listed.ensures c.loop-pair.invariant)

pub returns : goal.returns
unfolding listed_of
returns c = sym c.loop-pair.invariant ∙ ends next_listed _ _ _ c.loop-pair-test.false
