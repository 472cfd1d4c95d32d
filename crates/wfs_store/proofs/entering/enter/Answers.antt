-- One more entry stands behind the others, with the state that it leaves.
use Rattle.std.proofs.Common.{◌≡◌, ◌+◌, ◌∙◌, refl, ap, arith}
use Rattle.wfs_model.specs.Step.{Done}
use Rattle.wfs_store.proofs.Courses.{entered_course}
use Rattle.wfs_store.proofs.entering.enter.Goals as goal

pub returns-clause-course : goal.returns-clause-course
returns-clause-course c opening course =
    let planned = c.requires.ready.planned in
    let stepped = c.carry-reply.ensures.step c.args.entry.request planned.is_plan in
    let new = record c.args.course.now { state = c.carry-reply.new.self; history = c.push.new.self; bytes = c.args.course.now.bytes + c.from.result; last = c.args.ready.made } in
    let more : c.args.course.now.bytes + c.from.result ≡ c.args.course.now.bytes + c.args.entry.size = omega arith in
    entered_course opening c.args.course.now new c.args.entry c.args.ready.moment course c.requires.change c.requires.fitting planned.later planned.few
    c.in-Ok.ensures.items (ap (λ (d : Done). d.1) stepped) c.carry-reply.ensures.schema refl refl more (c.requires.ready.made ∙ planned.is_plan.change)
