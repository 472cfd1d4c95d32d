use Rattle.service_state.proofs.Carried.{state_after}
use Rattle.service_state.proofs.state.ServiceState.carry.Goals as goal

pub invariant_of-self : goal.invariant_of-self
invariant_of-self c =
    let inside = c.self.inside in
    let work = c.carry_out-self-inside in
    let prepared = c.requires.prepared in
    rw (c.play.ensures.schema, work.ensures.given)
    (state_after inside.features.schema inside.features.kept c.play.new.features.kept inside.given inside.last c.args.moment inside.locks work.new.table c.args.plan.change c.args.plan.lock c.self.invariant
    (record { left = c.play.ensures.kept; locks = work.ensures.locks; opening = work.ensures.opening; grants = work.ensures.table_given; last = work.ensures.last })
    (rw (← c.self.view_is) at prepared.change) (rw (← c.self.view_is) at prepared.playable) (rw (← c.self.view_is) at prepared.queries) c.requires.last)
