-- Which limit is passed first, and that the change's numbers stand in their bytes.
use Rattle.std.proofs.lemmas.Result.{err_from_is_err_and}
use Rattle.wfs_model.specs.State.{durable}
use Rattle.wfs_store.proofs.Verdicts.{count_judged, state_judged, side_judged, none_judged}
use Rattle.wfs_store.proofs.Short.{short_if}
use Rattle.wfs_store.proofs.readying.judged.Goals as goal

pub returns-in_err-moment-clause-full : goal.returns-in_err-moment-clause-full
returns-in_err-moment-clause-full c opening start course long =
    let p = err_from_is_err_and c.from_residual.result c.from_residual.ensures.1 in
    rw (p.1, p.2) (count_judged opening start c.args.course.now c.args.entry.now c.args.side course long c.in_err-moment.field-0.0 c.in_err-moment.ensures.full)

pub returns-in_err-prepare-clause-full : goal.returns-in_err-prepare-clause-full
returns-in_err-prepare-clause-full c opening start course long =
    let p = err_from_is_err_and c.from_residual-in_err-prepare.result c.from_residual-in_err-prepare.ensures.1 in
    let at = c.in_ok-moment.ensures in
    rw (p.1, p.2) (state_judged opening start c.args.course.now c.args.entry.now c.args.side course long c.in_ok-moment.moment c.in_ok-moment.plan at.moment at.plan at.full
    c.in_err-prepare.field-0.0 (c.in_err-prepare.ensures.full c.args.entry.now.request at.plan))

pub spell-requires-clause-short : goal.spell-requires-clause-short
spell-requires-clause-short c =
    let at = c.in_ok-moment.ensures in
    let prepared = c.in_ok-prepare.ensures.prepared c.args.entry.now.request at.plan c.requires.fitting in
    let playable = rw (c.prepare.ensures.schema, c.prepare.ensures.state) at prepared.playable in
    short_if c.args.course.now.state.schema (durable c.args.course.now.state.state) c.in_ok-moment.plan.change c.requires.course.1.rules c.requires.course.1.past.well playable

pub returns-in_err-spell-clause-full : goal.returns-in_err-spell-clause-full
returns-in_err-spell-clause-full c opening start course long =
    let p = err_from_is_err_and c.from_residual-in_err-spell.result c.from_residual-in_err-spell.ensures.1 in
    let at = c.in_ok-moment.ensures in
    rw (p.1, p.2) (side_judged opening start c.args.course.now c.args.entry.now c.args.side course long c.in_ok-moment.moment c.in_ok-moment.plan at.moment at.plan at.full
    c.in_err-spell.field-0.0 (c.in_ok-prepare.ensures.full c.args.entry.now.request at.plan) (c.in_err-spell.ensures.full c.args.course.now.state.schema course.signature))

pub returns-clause-full : goal.returns-clause-full
returns-clause-full c opening start course long =
    let at = c.in_ok-moment.ensures in
    none_judged opening start c.args.course.now c.args.entry.now c.args.side course long c.in_ok-moment.moment c.in_ok-moment.plan at.moment at.plan at.full
    (c.in_ok-prepare.ensures.full c.args.entry.now.request at.plan) (c.in_ok-spell.ensures.full c.args.course.now.state.schema course.signature)
