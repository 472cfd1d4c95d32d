use Rattle.request_plans.proofs.Marks.{drop_is_of}
use Rattle.service_rows.proofs.plans.asks.request.Goals as goal

pub returns-in_ok-of-in-Drop-clause-fitting : goal.returns-in_ok-of-in-Drop-clause-fitting
returns-in_ok-of-in-Drop-clause-fitting c = drop_is_of c.args.schema.now c.in_ok-of-in-Drop.field-0 c.in_ok-of-in-Drop.ensures
