use Rattle.std.proofs.Common.{◌<◌, ◌≤◌, length, ◌∙◌, arith}
use Rattle.journal_replay.proofs.Gathering.{gathers_more, gathered_end, gathered_all}
use Rattle.journal_replay.proofs.checkpoint.rows.Goals as goal

pub returns-in-None-clause-parts : goal.returns-in-None-clause-parts
returns-in-None-clause-parts c = c.of.ensures ∙ (gathered_end 1_000 c.args.features.now.kept.features c.args.after c.loop-alloc.last c.loop-alloc.parts.items c.in-None.ensures.value c.loop-alloc.invariant).puts

pub returns-in-None-clause-rest : goal.returns-in-None-clause-rest
returns-in-None-clause-rest c = (gathered_end 1_000 c.args.features.now.kept.features c.args.after c.loop-alloc.last c.loop-alloc.parts.items c.in-None.ensures.value c.loop-alloc.invariant).rest

pub loop-alloc-preserved : goal.loop-alloc-preserved
loop-alloc-preserved c =
    let less : length c.loop-alloc.parts.items < 1_000 = omega arith in
    rw (c.in_ok-push-in-Some.ensures.items, c.in_ok-copy-in-Some.ensures)
    (gathers_more 1_000 c.args.features.now.kept.features c.args.after c.loop-alloc.last c.loop-alloc.parts.items c.in-Some.feature.now c.in-Some.ensures.view.order c.in-Some.ensures.value less c.loop-alloc.invariant)

pub returns-clause-parts : goal.returns-clause-parts
returns-clause-parts c =
    let full : 1_000 ≤ length c.loop-alloc.parts.items = omega arith in
    c.of-2.ensures ∙ (gathered_all 1_000 c.args.features.now.kept.features c.args.after c.loop-alloc.last c.loop-alloc.parts.items full c.loop-alloc.invariant).puts

pub returns-clause-rest : goal.returns-clause-rest
returns-clause-rest c =
    let full : 1_000 ≤ length c.loop-alloc.parts.items = omega arith in
    (gathered_all 1_000 c.args.features.now.kept.features c.args.after c.loop-alloc.last c.loop-alloc.parts.items full c.loop-alloc.invariant).rest
