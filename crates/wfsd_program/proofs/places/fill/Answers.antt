use Rattle.std.proofs.Common.{arith}
use Rattle.std.specs.Vec.Iter.{into_iter_items}
use Rattle.wfsd_program.proofs.Filling.{split_more, filled, counted, taken}
use Rattle.wfsd_program.proofs.places.fill.Goals as goal

pub loop-acceptor-preserved : goal.loop-acceptor-preserved
loop-acceptor-preserved g c =
    let at = c.loop-acceptor in
    let both = taken g.C.Clock.moments (g.C.Clock.moments c.args._clock.now) at.clocks.items c.pop.new.self.items at.slots.items c.push.new.self.items _ c.in-Some-pop.ensures.items c.in-Ok.ensures.items
    at.invariant.left at.invariant.twins in
    record {
      split = split_more at.yielded _ (into_iter_items c.next.new.self) c.args.acceptors.items c.in-Some.acceptor c.in-Some.ensures.steps.0 at.invariant.split;
      acceptors = filled at.slots.items c.push.new.self.items _ at.yielded c.in-Ok.ensures.items at.invariant.acceptors;
      clocks = counted at.clocks.items c.pop.new.self.items c.in-Some-pop.clock at.yielded c.in-Some.acceptor _ c.in-Some-pop.ensures.items at.invariant.clocks;
      left = both.0;
      twins = both.1;
      room = omega arith;
    }
