use Rattle.std.proofs.Common.{◌+◌, ◌∙◌, ap, sym, arith, drop}
use Rattle.std.proofs.lemmas.List.{drop_all}
use Rattle.disk_core.specs.Memory.{steps_of, unsynced_from}
use Rattle.disk_core.specs.declared.call.Call.TheVariants as calls
use Rattle.disk_core.proofs.Replays.{steps_next}
use Rattle.disk_core.proofs.crash.unsynced.Goals as goal

pub loop-call-preserved : goal.loop-call-preserved
loop-call-preserved c =
    let i = c.loop-call.call-index in
    let log = c.args.log.now in (
      omega (arith, c.count_on-count.ensures.within, c.loop-call.invariant.0),
      λ text. c.count_on-count.ensures.count text (steps_of text (drop (i + 1) log))
          ∙ ap (unsynced_from c.loop-call.count) (sym (steps_next text log i (calls.Write 0 0 0) c.loop-call-test.true)) ∙ c.loop-call.invariant.1 text,
    )

pub returns-clause-count : goal.returns-clause-count
unfolding unsynced_from
returns-clause-count c text = ap (λ l. unsynced_from c.loop-call.count (steps_of text l)) (sym (drop_all c.loop-call.call-index c.args.log.now c.loop-call-test.false)) ∙ c.loop-call.invariant.1 text
