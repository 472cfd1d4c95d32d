use Rattle.request_plans.proofs.Marks.{all_more}
use Rattle.wfs_model.specs.OfSchema.{IsStoredOf}
use Rattle.state_rows.proofs.asks.add_definition.Goals as goal

pub returns : goal.returns
returns c = rw c.in_ok-push.ensures.items (all_more (IsStoredOf c.args.schema.now) c.args.definitions.now.items c.in_ok-definition.field-0 c.requires c.in_ok-definition.ensures)
