use Rattle.query_docs.proofs.Sound.{asked_is}
use Rattle.query_docs.proofs.asked.read_asked.Goals as goal

pub returns-clause-of_schema : goal.returns-clause-of_schema
returns-clause-of_schema c = asked_is c.args.schema.now c.args.element.now c.asked_of.result c.asked_of.ensures
