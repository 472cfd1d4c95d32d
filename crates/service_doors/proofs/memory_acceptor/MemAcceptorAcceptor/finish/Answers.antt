use Rattle.std.proofs.Common.{ap, ◌∙◌}
use Rattle.service_doors.specs.Memory.{after_finish}
use Rattle.service_doors.proofs.Places.{finished_row}
use Rattle.service_doors.proofs.memory_acceptor.MemAcceptorAcceptor.finish.Goals as goal

pub returns : goal.returns
returns c =
    let s = c.self.inside in
    finished_row s.links.items c.insert.new.self.items s.at s.out s.calls c.args.link c.self.invariant.0 c.in-Ok.ensures.items
    ∙ ap (λ r. after_finish r c.args.link) c.self.view_is
