use Rattle.std.proofs.Common.{◌<◌, ◌∙◌, ap, arith}
use Rattle.std.proofs.lemmas.Result.{err_from_is_err_and}
use Rattle.drill_requests.specs.Requests.{requests_before}
use Rattle.drill_requests.specs.Rounds.{moved}
use Rattle.wfsd_commands.proofs.Drills.{first_seed, next_seed, round_is, round_come, round_stops_at, nothing_done}
use Rattle.wfsd_commands.proofs.drilling.run.Goals as goal

pub loop-number-init : goal.loop-number-init
loop-number-init g c = record {
  seed = first_seed c.args.rounds;
  schema = c.requires.schema;
  come = nothing_done g.D.Disk.faults c.args.store.now c.args.schema.now c.args.rounds c.requires.fresh;
}

pub loop-number-preserved : goal.loop-number-preserved
loop-number-preserved g c =
    let round = c.round_at-round in
    let is = round_is c.args.schema.now c.args.rounds c.loop-number.number c.loop-number.seed round.result round.ensures.number (rw c.items.ensures at round.ensures.kind) round.ensures.x round.ensures.y c.loop-number.invariant.seed in
    record {
      seed = next_seed c.args.rounds c.loop-number.number c.loop-number.seed c.moved-seed.result (c.moved-seed.ensures.value ∙ ap moved c.moved.ensures.value) c.loop-number.invariant.seed;
      schema = c.in_ok-run_round.ensures.schema ∙ c.loop-number.invariant.schema;
      come = round_come g.D.Disk.faults c.args.store.now c.args.schema.now c.args.rounds c.loop-number.number round.result c.run_round.new.sums c.run_round.new.store is
          (c.in_ok-run_round.ensures.all c.args.store.now (requests_before c.args.schema.now c.args.rounds c.loop-number.number) c.loop-number.invariant.come);
    }

pub returns-in_err-run_round : goal.returns-in_err-run_round
returns-in_err-run_round g c =
    let p = err_from_is_err_and c.from_residual.result c.from_residual.ensures.1 in
    let round = c.round_at-round in
    let is = round_is c.args.schema.now c.args.rounds c.loop-number.number c.loop-number.seed round.result round.ensures.number (rw c.items.ensures at round.ensures.kind) round.ensures.x round.ensures.y c.loop-number.invariant.seed in
    let lt : c.loop-number.number < c.args.rounds = omega arith in
    rw (p.1, p.2) (round_stops_at g.D.Disk.faults c.args.store.now c.args.schema.now c.args.rounds c.loop-number.number round.result c.in_err-run_round.field-0.0 c.run_round.new.store lt is
    (c.in_err-run_round.ensures.all c.args.store.now (requests_before c.args.schema.now c.args.rounds c.loop-number.number) c.loop-number.invariant.come))
