use Rattle.std.proofs.Common.{List, Result, Err, ap, arith, length}
use Rattle.std.specs.Vec.Iter.{into_iter_items}
use Rattle.std.proofs.lemmas.Result.{err_from_is_err_and}
use Rattle.wfs_world.specs.declared.event.Event.{Event}
use Rattle.wfs_world.specs.declared.event.Seen.{Seen}
use Rattle.wfs_world.specs.declared.event.WorldFault.{WorldFault}
use Rattle.wfs_world.proofs.Sequences.{all_more, seen_more, rest_of, split_more, stops}
use Rattle.wfs_world.proofs.world.World.run.Goals as goal

abbrev failed : WorldFault → Result Seen WorldFault
failed fault = Err fault

pub returns-in_err-one-clause-err : goal.returns-in_err-one-clause-err
returns-in_err-one-clause-err c =
    let p = err_from_is_err_and c.from_residual-in_err-one.result c.from_residual-in_err-one.ensures.1 in
    rw (p.1, p.2) (stops c.args.self.now c.loop-event.self c.step.new.self c.loop-event.yielded (into_iter_items c.loop-event.event-iterator) (into_iter_items c.next.new.self) c.args.events c.in-Some.event c.in_err-one.field-0.0
    c.loop-event.invariant.done c.in_err-one.ensures.err c.in-Some.ensures.steps.0 c.loop-event.invariant.split (λ is. c.in_err-one.ensures.not_now (ap failed is)))

pub loop-event-preserved : goal.loop-event-preserved
loop-event-preserved c =
    let steps = c.in-Some.ensures.steps.0 in
    let now = c.loop-event.self in
    let next = c.step.new.self in
    let event = c.in-Some.event in
    let count = ap (λ (l : List Event). length l) steps in
    record {
      of = rest_of now next event _ _ steps c.in_ok-one.ensures.left c.loop-event.invariant.of;
      split = split_more c.loop-event.yielded _ (into_iter_items c.next.new.self) c.args.events event steps c.loop-event.invariant.split;
      done = all_more c.args.self.now now next c.loop-event.yielded event c.loop-event.invariant.done c.in_ok-one.ensures.may c.in_ok-one.ensures.left;
      seen = seen_more c.args.self.now now c.loop-event.yielded event c.in_ok-one.one _ _ c.loop-event.invariant.done c.loop-event.invariant.seen c.in_ok-one.ensures.seen c.push_reserved.ensures.items;
      room = omega (arith, count, c.push_reserved.ensures.len, c.push_reserved.ensures.capacity, c.loop-event.invariant.room);
    }
