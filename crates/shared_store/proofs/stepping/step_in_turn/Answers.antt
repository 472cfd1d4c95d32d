-- A step of the store is one of a seat among others, and what it leaves is owed to the publisher.
use Rattle.std.proofs.Common.{refl, subst}
use Rattle.feature_values.specs.declared.schema.Schema.{Schema}
use Rattle.wfs_model.specs.Kept.{IsKept}
use Rattle.wfs_model.specs.State.{Durable}
use Rattle.shared_store.proofs.Counting.{owes_after, settled_after}
use Rattle.shared_store.proofs.Steps.{step_is_one}
use Rattle.shared_store.proofs.stepping.step_in_turn.Goals as goal

pub returns-clause-turn : goal.returns-clause-turn
returns-clause-turn g c = step_is_one g.D.Disk.moment g.D.Disk.since g.D.Disk.faults _ _ _ c.step.result c.requires.change c.requires.fitting c.step.ensures

pub returns-clause-owes : goal.returns-clause-owes
returns-clause-owes g c = owes_after g.D.Disk.moment g.D.Disk.since g.D.Disk.faults c.args.counter.now _ c.args.entry c.requires.settled refl c.step.result c.step.ensures
    (subst (λ (k : Durable). IsKept c.args.counter.now.store.schema k) c.features.ensures.kept (subst (λ (s : Schema). IsKept s c.features.result.now.kept) c.features.ensures.schema c.schema-schema.ensures.kept)) c.shown-shown.ensures.stands

pub returns-clause-settled : goal.returns-clause-settled
returns-clause-settled g c = settled_after g.D.Disk.moment g.D.Disk.since g.D.Disk.faults c.args.counter.now _ c.args.entry c.requires.settled refl c.step.result c.step.ensures
