use Rattle.std.proofs.Common.{◌+◌, ◌∙◌, ap, sym, arith, drop, length, get_or}
use Rattle.std.proofs.lemmas.List.{drop_all}
use Rattle.disk_core.specs.Story.{read_after_all}
use Rattle.disk_core.specs.Memory.{steps_of}
use Rattle.disk_core.specs.declared.call.Call.TheVariants as calls
use Rattle.disk_core.proofs.Replays.{steps_next, written_next, within_next}
use Rattle.disk_core.proofs.Notes.{length_step}
use Rattle.disk_core.proofs.crash.redo_all.Goals as goal

pub redo-requires-clause-room : goal.redo-requires-clause-room
redo-requires-clause-room c = omega (arith, c.loop-call.invariant.1.0, c.loop-call.invariant.1.1.0, written_next c.args.log.now c.loop-call.call-index (calls.Write 0 0 0) c.loop-call-test.true)

pub loop-call-preserved : goal.loop-call-preserved
unfolding read_after_all
loop-call-preserved c =
    let i = c.loop-call.call-index in
    let log = c.args.log.now in
    let text = c.args.text.now in
    let was = c.loop-call.invariant in
    let rest = steps_of text (drop (i + 1) log) in (
      ap (λ s. read_after_all s rest) c.redo.ensures.done
          ∙ ap (read_after_all c.loop-call.bytes.items) (sym (steps_next text log i (calls.Write 0 0 0) c.loop-call-test.true)) ∙ was.0,
      (
        omega (arith, was.1.0, written_next log i (calls.Write 0 0 0) c.loop-call-test.true, ap length c.redo.ensures.done, length_step c.loop-call.bytes.items text (get_or log i (calls.Write 0 0 0))),
        (
          omega (arith, was.1.1.0, c.redo.ensures.room),
          (within_next (length text) log i (calls.Write 0 0 0) c.loop-call-test.true was.1.1.1).1,
        ),
      ),
    )

pub returns-clause-done : goal.returns-clause-done
unfolding read_after_all
returns-clause-done c = ap (λ l. read_after_all c.loop-call.bytes.items (steps_of c.args.text.now l)) (sym (drop_all c.loop-call.call-index c.args.log.now c.loop-call-test.false)) ∙ c.loop-call.invariant.0
