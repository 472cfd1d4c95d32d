use Rattle.recovery.proofs.Looking.{look_foreign, look_nothing, look_current, look_found}
use Rattle.std.proofs.Common.{Ok, Err}
use Rattle.recovery.proofs.look.look.Goals as goal

pub returns-in-Ok-Foreign-clause-answer : goal.returns-in-Ok-Foreign-clause-answer
returns-in-Ok-Foreign-clause-answer g c a b is_a is_b =
    look_foreign (g.R.Replay.verdict c.args.replay.now) c.args.limit c.in-Ok-Foreign.field-0 a b _ _ is_a is_b c.in-Ok-Foreign.place _ c.in-Ok-Foreign.field-0-is c.in-Ok-Foreign.ensures.foreign c.restart.ensures.taken

pub returns-in-Ok-Nothing-clause-answer : goal.returns-in-Ok-Nothing-clause-answer
returns-in-Ok-Nothing-clause-answer g c a b is_a is_b =
    (look_nothing (g.R.Replay.verdict c.args.replay.now) c.args.limit c.in-Ok-Nothing.field-0 a b _ _ is_a is_b c.in-Ok-Nothing.a c.in-Ok-Nothing.b c.in-Ok-Nothing.field-0-is c.in-Ok-Nothing.ensures.first c.in-Ok-Nothing.ensures.second, c.restart.ensures.taken)

pub returns-in-Err-read_chosen-clause-answer : goal.returns-in-Err-read_chosen-clause-answer
returns-in-Err-read_chosen-clause-answer g c a b is_a is_b =
    let h = c.in-Ok-Current in
    look_current (g.R.Replay.verdict c.args.replay.now) c.args.limit h.field-0 a b _ _ is_a is_b g.D.Disk.shown (g.R.Replay.verdict c.restart.new.self) (Err c.in-Err-read_chosen.fault) h.second h.is_stale h.generation c.read_choice.new.disks _ h.field-0-is h.ensures.first h.ensures.second
    h.ensures.untouched.a.same h.ensures.untouched.b.same c.restart.ensures.verdict c.in-Err-read_chosen.ensures.answer

pub returns-in-Ok-clause-answer : goal.returns-in-Ok-clause-answer
returns-in-Ok-clause-answer g c a b is_a is_b =
    let h = c.in-Ok-Current in
    look_found (g.R.Replay.verdict c.args.replay.now) c.args.limit h.field-0 a b _ _ is_a is_b h.second h.is_stale h.generation c.in-Ok.ending.gate (g.R.Replay.taken c.read_chosen.new.replay) h.field-0-is h.ensures.first h.ensures.second
    (look_current (g.R.Replay.verdict c.args.replay.now) c.args.limit h.field-0 a b _ _ is_a is_b g.D.Disk.shown (g.R.Replay.verdict c.restart.new.self) (Ok c.in-Ok.ending) h.second h.is_stale h.generation c.read_choice.new.disks (g.R.Replay.taken c.read_chosen.new.replay) h.field-0-is h.ensures.first h.ensures.second
    h.ensures.untouched.a.same h.ensures.untouched.b.same c.restart.ensures.verdict c.in-Ok.ensures.answer)
