use Rattle.std.proofs.Common.{arith, ◌≤◌, ap}
use Rattle.wfs_machine.proofs.Telling.{is_live_earlier}
use Rattle.wfs_machine.proofs.plain.Plain.renew_lock.Goals as goal

pub features_of-requires : goal.features_of-requires
features_of-requires c =
    let last : c.self.inside.last ≤ c.args.moment = rw (ap (λ m. m.state.last) c.self.view_is) c.requires.next.0 in
    let le : c.self.inside.locks.last ≤ c.args.moment = omega (arith, last, c.self.invariant.later) in
    is_live_earlier c.self.inside.locks.locks c.self.inside.locks.last c.args.moment c.args.number le (rw (ap (λ m. m.state.locks) c.self.view_is) c.requires.live)
