use Rattle.std.proofs.Common.{◌∙◌}
use Rattle.std.specs.Vec.Iter.{into_iter_items}
use Rattle.wfsd_commands.proofs.Drills.{split_more, rest_of, since_more}
use Rattle.wfsd_commands.proofs.drilling.carry_all.Goals as goal

pub loop-request-preserved : goal.loop-request-preserved
loop-request-preserved g c =
    let steps = c.in-Some.ensures.steps.0 in
    record {
      split = split_more c.loop-request.yielded _ (into_iter_items c.next.new.self) c.args.requests.items c.in-Some.request steps c.loop-request.invariant.split;
      of = rest_of c.args.store.now.schema _ (into_iter_items c.next.new.self) c.in-Some.request steps c.loop-request.invariant.of;
      schema = c.in_ok-carry_on.ensures.schema ∙ c.loop-request.invariant.schema;
      since = since_more g.D.Disk.faults c.args.store.now c.args.sums.now c.loop-request.yielded c.in-Some.request c.loop-request.store c.carry_on.new.store c.loop-request.sums c.carry_on.new.sums c.loop-request.invariant.since c.in_ok-carry_on.ensures.on;
    }
