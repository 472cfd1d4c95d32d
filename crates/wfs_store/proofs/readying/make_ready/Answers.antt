-- What was judged stays judged, and the change may be recorded.
use Rattle.std.proofs.lemmas.Result.{err_from_is_err_and}
use Rattle.wfs_store.proofs.Recordable.{writable_if}
use Rattle.wfs_store.proofs.readying.make_ready.Goals as goal

pub returns-in_err-moment-clause-full : goal.returns-in_err-moment-clause-full
returns-in_err-moment-clause-full c opening start course long =
    let p = err_from_is_err_and c.from_residual.result c.from_residual.ensures.1 in
    rw (p.1, p.2) (c.in_err-moment.ensures.full opening start course long)

pub returns-clause-full : goal.returns-clause-full
returns-clause-full c opening start course long = c.in_ok-moment.ensures.full opening start course long

pub returns-clause-written : goal.returns-clause-written
returns-clause-written c =
    let at = c.in_ok-moment.ensures in
    let planned = rw (at.same.schema, at.same.state) at at.ready.is_plan in
    let can = rw at.same.state at at.ready.prepared.change in
    let playable = rw (at.same.schema, at.same.state) at at.ready.prepared.playable in
    writable_if c.args.course.now.state.schema c.args.course.now.state.state c.in_ok-moment.moment c.args.entry.now.request c.in_ok-moment.plan
    c.args.side c.args.course.now.limits.side c.judged.new.course.body.items planned can playable c.requires.texts at.spelled
