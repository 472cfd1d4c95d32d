use Rattle.std.proofs.Common.{List, ap, sym, ◌∙◌, subst}
use Rattle.std.proofs.lemmas.List.{take_all}
use Rattle.feature_values.specs.declared.schema.Schema.{Schema}
use Rattle.wfs_model.specs.declared.entry.Entry.{Entry}
use Rattle.wfs_model.specs.History.{after_all}
use Rattle.wfs_model.specs.OfSchema.{IsOfSchema}
use Rattle.wfs_world.proofs.Anew.{step_left, stepped_on}
use Rattle.wfs_world.proofs.replaying.step_all.Goals as goal

pub step-requires : goal.step-requires
step-requires c =
    let first = step_left c.args.machine.now.schema _ c.args.entries.now c.loop-entry.entry-index c.entry-item.result c.loop-entry-test.true c.entry-item.is c.loop-entry.invariant.left in
    record { change = first.0; fitting = subst (λ (s : Schema). IsOfSchema s c.entry-item.result.request) (sym c.loop-entry.invariant.schema) first.1 }

pub loop-entry-preserved : goal.loop-entry-preserved
loop-entry-preserved c =
    let on = stepped_on c.args.machine.now.schema c.args.machine.now.state c.args.entries.now c.loop-entry.entry-index c.entry-item.result c.loop-entry.machine c.step.new.self c.in_ok-step.field-0 c.loop-entry-test.true c.entry-item.is c.loop-entry.invariant.schema
    c.loop-entry.invariant.state c.loop-entry.invariant.left c.in_ok-step.ensures.ok in
    record { schema = c.in_ok-step.ensures.schema ∙ c.loop-entry.invariant.schema; state = on.0; left = on.1 }

pub returns : goal.returns
returns c =
    let whole = take_all c.loop-entry.entry-index c.args.entries.now c.loop-entry-test.false in
    record {
      schema = c.loop-entry.invariant.schema;
      state = c.loop-entry.invariant.state ∙ ap (λ (l : List Entry). after_all c.args.machine.now.schema c.args.machine.now.state l) whole;
    }
