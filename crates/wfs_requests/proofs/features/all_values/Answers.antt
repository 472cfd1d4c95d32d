use Rattle.std.proofs.Common.{sym, ◌∙◌}
use Rattle.std.proofs.lemmas.Result.{err_from_is_err_and}
use Rattle.gml_docs.proofs.Loops.{goes_on, fails, ends}
use Rattle.wfs_requests.specs.Features.{next_value}
use Rattle.wfs_requests.proofs.features.all_values.Goals as goal

pub loop-element-preserved : goal.loop-element-preserved
loop-element-preserved c = record {
  reads = goes_on (next_value c.args.schema.now c.args.of_type.now) _ _ _ _ _ c.loop-element-test.true c.element-item.is _ c.in_ok-next_value.ensures.gives c.loop-element.invariant.reads;
  met = c.next_value.ensures.met;
  values = c.next_value.ensures.values;
}

pub returns-in_err-next_value-clause-gives : goal.returns-in_err-next_value-clause-gives
returns-in_err-next_value-clause-gives c =
    let p = err_from_is_err_and c.from_residual.result c.from_residual.ensures.1 in
    rw (p.1, p.2) (fails (next_value c.args.schema.now c.args.of_type.now) _ _ _ _ _ c.loop-element-test.true c.element-item.is _ _ c.in_err-next_value.ensures.gives c.loop-element.invariant.reads)

pub returns-clause-gives : goal.returns-clause-gives
returns-clause-gives c = sym c.loop-element.invariant.reads ∙ ends (next_value c.args.schema.now c.args.of_type.now) _ _ _ c.loop-element-test.false
