use Rattle.std.proofs.Common.{List, ap, ◌∙◌}
use Rattle.std.proofs.lemmas.List.{take_all}
use Rattle.wfs_model.specs.declared.change.Change.{Change}
use Rattle.wfs_model.specs.State.{Durable, opened}
use Rattle.wfs_world.specs.Scene.{kept_by}
use Rattle.wfs_world.proofs.Anew.{next_keeps, next_is, machine_is}
use Rattle.wfs_world.proofs.replaying.open_on.Goals as goal

pub apply-requires : goal.apply-requires
apply-requires c =
    next_keeps c.args.schema.now c.loop-change.machine.schema c.loop-change.machine.state c.args.changes.now c.loop-change.change-index c.change-item.result c.loop-change-test.true c.change-item.is c.requires c.loop-change.invariant.schema c.loop-change.invariant.kept

pub loop-change-preserved : goal.loop-change-preserved
loop-change-preserved c = record {
  schema = c.in_ok-apply.ensures.schema ∙ c.loop-change.invariant.schema;
  kept = next_is c.args.schema.now c.loop-change.machine.state c.apply.new.self.state c.args.changes.now c.loop-change.change-index c.change-item.result c.loop-change-test.true c.change-item.is c.loop-change.invariant.kept c.in_ok-apply.ensures.state;
}

pub returns : goal.returns
returns c =
    let whole = take_all c.loop-change.change-index c.args.changes.now c.loop-change-test.false in
    machine_is c.reopen-2.new.self c.args.schema.now (opened (kept_by c.args.schema.now c.args.changes.now) c.args.number) (c.reopen-2.ensures.schema ∙ c.loop-change.invariant.schema)
    (c.reopen-2.ensures.state ∙ ap (λ (k : Durable). opened k c.args.number) (c.loop-change.invariant.kept ∙ ap (λ (l : List Change). kept_by c.args.schema.now l) whole))
