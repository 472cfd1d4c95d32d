use Rattle.std.proofs.Common.{map, Contains, refl, ap, subst, ◌∙◌}
use Rattle.service_doors.specs.declared.doors.Asked.{Asked}
use Rattle.service_doors.specs.Listening.{Opens}
use Rattle.service_doors.specs.Memory.{Entry, accepting_of, listening_of, after_failed_listen}
use Rattle.service_doors.proofs.Openings.{opened, refused_entry}
use Rattle.service_doors.proofs.memory_doors.MemDoorsDoors.listen.Goals as goal

pub returns-then-fails-clause-err : goal.returns-then-fails-clause-err
returns-then-fails-clause-err c =
    let s = c.self.inside in
    let at = c.self.view_is in
    (subst (λ (e : Entry). Contains e.calls.failing e.calls.made) at (c.if-fails.ensures.exact.0 refl), refused_entry s.waiting.items s.asked.items c.reserve.new.self.items s.calls c.fails.new.self c.reserve.ensures.items c.if-fails.ensures.counted ∙ ap after_failed_listen at)

pub returns-clause-opens : goal.returns-clause-opens
returns-clause-opens c =
    let s = c.self.inside in
    let k = c.if-fails in
    let ask : Asked = record { address = c.args.address.now; workers = c.args.workers } in
    subst (λ (e : Entry). Opens (listening_of e) ask (map accepting_of c.give.new.given.items) (listening_of (record { waiting = c.give.new.waiting.items; asked = c.push.new.self.items; calls = c.fails.new.self })))
    c.self.view_is
    (opened s.waiting.items c.give.new.given.items c.give.new.waiting.items s.asked.items c.push.new.self.items s.calls c.fails.new.self ask
    c.self.invariant c.give.ensures.given c.give.ensures.rest (c.in-Ok.ensures.items ∙ rw (c.reserve.ensures.items, c.in_ok-address.ensures)) c.if-fails.ensures.counted)
