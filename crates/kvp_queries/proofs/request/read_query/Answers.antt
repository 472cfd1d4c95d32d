use Rattle.kvp_queries.proofs.Kept.{read_kept}
use Rattle.kvp_queries.proofs.Requests.{read_is}
use Rattle.kvp_queries.proofs.request.read_query.Goals as goal

pub returns-clause-of_schema : goal.returns-clause-of_schema
returns-clause-of_schema c = read_is c.args.schema.now c.args.query.now c.asked_of.result c.asked_of.ensures

pub returns-clause-kept : goal.returns-clause-kept
returns-clause-kept c = read_kept c.args.schema.now c.args.query.now c.asked_of.result c.asked_of.ensures
