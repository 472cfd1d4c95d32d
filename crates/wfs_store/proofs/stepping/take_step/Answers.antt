-- What a step comes to where it is refused, where a disk failed, and where it is carried out.
use Rattle.std.proofs.Common.{◌∙◌}
use Rattle.std.proofs.lemmas.Result.{err_from_is_err_and}
use Rattle.wfs_model.specs.State.{durable}
use Rattle.wfs_store.specs.Kept.{opening_on}
use Rattle.wfs_store.proofs.Courses.{same_course, store_stays}
use Rattle.wfs_store.proofs.Ends.{side_told, refused_step, failed_step, done_step, done_store, writable_copy, writable_there}
use Rattle.wfs_store.proofs.stepping.take_step.Goals as goal

pub returns-in_err-ready-clause-step : goal.returns-in_err-ready-clause-step
returns-in_err-ready-clause-step g c bodies side store =
    let told = side_told g.D.Disk.moment g.D.Disk.since g.D.Disk.images g.D.Disk.faults g.met.D.Disk.counts g.met.D.Disk.only c.args.course.now c.make_ready.new.course c.args.journal.now bodies side c.args.begun.now c.args.tally.now c.args.entry store c.make_ready.ensures.same c.side_length.result c.side_length.ensures in
    let judged = c.in_err-ready.ensures.full (opening_on c.args.course.now.state.schema bodies) side store.memory (told ∙ store.length) in
    let stand = c.stands.ensures c.args.course.now.state.schema (durable c.args.course.now.state.state) c.args.begun.now store.keeps in
    let p = err_from_is_err_and c.from_residual.result c.from_residual.ensures.1 in
    rw (p.1, p.2) (refused_step g.D.Disk.moment g.D.Disk.since g.D.Disk.images g.D.Disk.faults g.met.D.Disk.counts g.met.D.Disk.only c.args.course.now c.make_ready.new.course c.args.journal.now bodies side c.args.begun.now c.args.tally.now c.args.entry store c.make_ready.ensures.same c.in_err-ready.field-0.0 judged stand)

pub returns-in-Ok-clause-store : goal.returns-in-Ok-clause-store
returns-in-Ok-clause-store g c bodies side store =
    let told = side_told g.D.Disk.moment g.D.Disk.since g.D.Disk.images g.D.Disk.faults g.met.D.Disk.counts g.met.D.Disk.only c.args.course.now c.make_ready.new.course c.args.journal.now bodies side c.args.begun.now c.args.tally.now c.args.entry store c.make_ready.ensures.same c.side_length.result c.side_length.ensures in
    let at = c.in_ok-ready.ensures in
    let opening = opening_on c.args.course.now.state.schema bodies in
    let writable = writable_copy g.D.Disk.moment g.D.Disk.since g.D.Disk.images g.D.Disk.faults g.met.D.Disk.counts g.met.D.Disk.only c.args.course.now c.make_ready.new.course c.args.journal.now bodies side c.args.begun.now c.args.tally.now c.args.entry store c.make_ready.ensures.same c.in_ok-ready.ready at.taken c.side_length.result c.make_ready.new.course.body.items c.deref.result.now told c.deref.ensures.value at.written in
    let there = writable_there g.D.Disk.moment g.D.Disk.since g.D.Disk.images g.D.Disk.faults g.met.D.Disk.counts g.met.D.Disk.only c.args.course.now c.make_ready.new.course c.args.journal.now bodies side c.args.begun.now c.args.tally.now c.args.entry store c.make_ready.ensures.same c.in_ok-ready.ready at.taken c.deref.result.now writable in
    let kept = c.in-Ok.ensures.kept c.args.course.now.state.schema (durable c.args.course.now.state.state) store.keeps there in
    let ended = c.enter.ensures in
    done_store g.D.Disk.moment g.D.Disk.since g.D.Disk.images g.D.Disk.faults g.met.D.Disk.counts g.met.D.Disk.only c.args.course.now c.make_ready.new.course c.args.journal.now bodies side c.args.begun.now c.args.tally.now c.args.entry store c.make_ready.ensures.same c.in_ok-ready.ready at.taken c.enter.new.course c.write.new.journal c.write.new.begun c.enter.result c.deref.result.now
    (ended.course opening (same_course opening c.args.course.now c.make_ready.new.course at.same store.memory))
    kept writable c.in-Ok.ensures.longer c.in-Ok.ensures.limit ended.entries ended.step ended.schema ended.limits

pub returns-in-Ok-clause-step : goal.returns-in-Ok-clause-step
returns-in-Ok-clause-step g c bodies side store =
    let told = side_told g.D.Disk.moment g.D.Disk.since g.D.Disk.images g.D.Disk.faults g.met.D.Disk.counts g.met.D.Disk.only c.args.course.now c.make_ready.new.course c.args.journal.now bodies side c.args.begun.now c.args.tally.now c.args.entry store c.make_ready.ensures.same c.side_length.result c.side_length.ensures in
    let at = c.in_ok-ready.ensures in
    let opening = opening_on c.args.course.now.state.schema bodies in
    let full = at.full opening side store.memory (told ∙ store.length) in
    let writable = writable_copy g.D.Disk.moment g.D.Disk.since g.D.Disk.images g.D.Disk.faults g.met.D.Disk.counts g.met.D.Disk.only c.args.course.now c.make_ready.new.course c.args.journal.now bodies side c.args.begun.now c.args.tally.now c.args.entry store c.make_ready.ensures.same c.in_ok-ready.ready at.taken c.side_length.result c.make_ready.new.course.body.items c.deref.result.now told c.deref.ensures.value at.written in
    let there = writable_there g.D.Disk.moment g.D.Disk.since g.D.Disk.images g.D.Disk.faults g.met.D.Disk.counts g.met.D.Disk.only c.args.course.now c.make_ready.new.course c.args.journal.now bodies side c.args.begun.now c.args.tally.now c.args.entry store c.make_ready.ensures.same c.in_ok-ready.ready at.taken c.deref.result.now writable in
    let goes = c.write.ensures.goes c.args.course.now.state.schema (durable c.args.course.now.state.state) store.keeps there in
    let ended = c.enter.ensures in
    done_step g.D.Disk.moment g.D.Disk.since g.D.Disk.images g.D.Disk.faults g.met.D.Disk.counts g.met.D.Disk.only c.args.course.now c.make_ready.new.course c.args.journal.now bodies side c.args.begun.now c.args.tally.now c.args.entry store c.make_ready.ensures.same c.in_ok-ready.ready at.taken c.enter.new.course c.write.new.journal c.write.new.begun c.enter.result full goes
    c.in-Ok.ensures.done (λ none. (c.write.ensures.unwritten none).1) c.write.ensures.count ended.entries ended.step ended.schema ended.limits c.write.ensures.current

pub returns-in-Err-clause-store : goal.returns-in-Err-clause-store
returns-in-Err-clause-store g c bodies side store =
    let told = side_told g.D.Disk.moment g.D.Disk.since g.D.Disk.images g.D.Disk.faults g.met.D.Disk.counts g.met.D.Disk.only c.args.course.now c.make_ready.new.course c.args.journal.now bodies side c.args.begun.now c.args.tally.now c.args.entry store c.make_ready.ensures.same c.side_length.result c.side_length.ensures in
    let at = c.in_ok-ready.ensures in
    let writable = writable_copy g.D.Disk.moment g.D.Disk.since g.D.Disk.images g.D.Disk.faults g.met.D.Disk.counts g.met.D.Disk.only c.args.course.now c.make_ready.new.course c.args.journal.now bodies side c.args.begun.now c.args.tally.now c.args.entry store c.make_ready.ensures.same c.in_ok-ready.ready at.taken c.side_length.result c.make_ready.new.course.body.items c.deref.result.now told c.deref.ensures.value at.written in
    let there = writable_there g.D.Disk.moment g.D.Disk.since g.D.Disk.images g.D.Disk.faults g.met.D.Disk.counts g.met.D.Disk.only c.args.course.now c.make_ready.new.course c.args.journal.now bodies side c.args.begun.now c.args.tally.now c.args.entry store c.make_ready.ensures.same c.in_ok-ready.ready at.taken c.deref.result.now writable in
    let kept = c.in-Err.ensures.kept c.args.course.now.state.schema (durable c.args.course.now.state.state) store.keeps there in
    store_stays g.D.Disk.images c.args.course.now c.make_ready.new.course bodies side c.args.journal.now c.write.new.journal c.args.begun.now c.write.new.begun at.same store
    kept c.in-Err.ensures.same c.in-Err.ensures.limit

pub returns-in-Err-clause-step : goal.returns-in-Err-clause-step
returns-in-Err-clause-step g c bodies side store =
    let told = side_told g.D.Disk.moment g.D.Disk.since g.D.Disk.images g.D.Disk.faults g.met.D.Disk.counts g.met.D.Disk.only c.args.course.now c.make_ready.new.course c.args.journal.now bodies side c.args.begun.now c.args.tally.now c.args.entry store c.make_ready.ensures.same c.side_length.result c.side_length.ensures in
    let at = c.in_ok-ready.ensures in
    let opening = opening_on c.args.course.now.state.schema bodies in
    let full = at.full opening side store.memory (told ∙ store.length) in
    let writable = writable_copy g.D.Disk.moment g.D.Disk.since g.D.Disk.images g.D.Disk.faults g.met.D.Disk.counts g.met.D.Disk.only c.args.course.now c.make_ready.new.course c.args.journal.now bodies side c.args.begun.now c.args.tally.now c.args.entry store c.make_ready.ensures.same c.in_ok-ready.ready at.taken c.side_length.result c.make_ready.new.course.body.items c.deref.result.now told c.deref.ensures.value at.written in
    let there = writable_there g.D.Disk.moment g.D.Disk.since g.D.Disk.images g.D.Disk.faults g.met.D.Disk.counts g.met.D.Disk.only c.args.course.now c.make_ready.new.course c.args.journal.now bodies side c.args.begun.now c.args.tally.now c.args.entry store c.make_ready.ensures.same c.in_ok-ready.ready at.taken c.deref.result.now writable in
    let goes = c.write.ensures.goes c.args.course.now.state.schema (durable c.args.course.now.state.state) store.keeps there in
    failed_step g.D.Disk.moment g.D.Disk.since g.D.Disk.images g.D.Disk.faults g.met.D.Disk.counts g.met.D.Disk.only c.args.course.now c.make_ready.new.course c.args.journal.now bodies side c.args.begun.now c.args.tally.now c.args.entry store c.make_ready.ensures.same c.in_ok-ready.ready at.taken c.write.new.journal c.write.new.begun c.raise.new.tally full goes
    c.in-Err.ensures.fault (λ none. let e = (c.in-Err.ensures.unwritten none).0 in absurd cc) c.raise.ensures c.write.ensures.count c.in-Err.ensures.cause c.write.ensures.current
