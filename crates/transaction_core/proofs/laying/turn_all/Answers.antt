use Rattle.std.proofs.Common.{subst, sym}
use Rattle.feature_values.specs.declared.schema.Schema.{Schema}
use Rattle.wfs_model.specs.OfSchema.{IsActionOf}
use Rattle.transaction_core.proofs.laying.turn_all.Goals as goal

pub turn-requires : goal.turn-requires
turn-requires g c = record {
  aimed = c.requires.aimed c.loop-id.id-index _ c.loop-id-test.true;
  fitting = subst (λ (schema : Schema). IsActionOf schema c.args.action.now) (sym c.loop-id.invariant.schema) c.requires.fitting;
}
