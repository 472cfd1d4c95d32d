use Rattle.std.proofs.Common.{sym, ◌∙◌}
use Rattle.std.specs.Option.{option_copied}
use Rattle.std.proofs.lemmas.Result.{err_from_is_err_and}
use Rattle.gml_docs.proofs.Loops.{goes_on, fails, ends}
use Rattle.query_docs.specs.Sorting.{next_key}
use Rattle.query_docs.proofs.sorting.all_keys.Goals as goal

pub loop-element-preserved : goal.loop-element-preserved
loop-element-preserved c = goes_on (next_key (option_copied c.args.of_type)) _ _ _ _ _ c.loop-element-test.true c.element-item.is _ c.in_ok-add_key.ensures c.loop-element.invariant

pub returns-in_err-add_key : goal.returns-in_err-add_key
returns-in_err-add_key c =
    let p = err_from_is_err_and c.from_residual.result c.from_residual.ensures.1 in
    rw (p.1, p.2) (fails (next_key (option_copied c.args.of_type)) _ _ _ _ _ c.loop-element-test.true c.element-item.is _ _ c.in_err-add_key.ensures c.loop-element.invariant)

pub returns : goal.returns
returns c = sym c.loop-element.invariant ∙ ends (next_key (option_copied c.args.of_type)) _ _ _ c.loop-element-test.false
