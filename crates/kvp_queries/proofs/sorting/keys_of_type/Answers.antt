use Rattle.std.proofs.lemmas.Result.{err_from_is_err_and}
use Rattle.kvp_queries.specs.Sorting.{next_key}
use Rattle.kvp_queries.proofs.Keys.{goes_on, fails, ends}
use Rattle.kvp_queries.proofs.sorting.keys_of_type.Goals as goal

pub loop-first-preserved : goal.loop-first-preserved
loop-first-preserved c = record {
  text = c.in-Some.ensures.text;
  read = goes_on (next_key c.args.of_type.now) _ _ _ _ _ _ c.in-Some.ensures.parts c.in_ok-add_key.ensures c.loop-first.invariant.read;
}

pub returns-in_err-add_key : goal.returns-in_err-add_key
returns-in_err-add_key c =
    let p = err_from_is_err_and c.from_residual.result c.from_residual.ensures.1 in
    rw (p.1, p.2) (fails (next_key c.args.of_type.now) _ _ _ _ _ _ _ c.in-Some.ensures.parts c.in_err-add_key.ensures c.loop-first.invariant.read)

pub returns-in_err-add_key-2 : goal.returns-in_err-add_key-2
returns-in_err-add_key-2 c =
    let p = err_from_is_err_and c.from_residual-in_err-add_key-2.result c.from_residual-in_err-add_key-2.ensures.1 in
    rw (p.1, p.2) (fails (next_key c.args.of_type.now) _ _ _ _ _ _ _ c.in_default.ensures.parts c.in_err-add_key-2.ensures c.loop-first.invariant.read)

pub returns : goal.returns
returns c = ends (next_key c.args.of_type.now) _ _ _ _ _ c.in_default.ensures.parts c.in_ok-add_key-2.ensures c.loop-first.invariant.read
