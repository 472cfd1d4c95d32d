use Rattle.query_docs.proofs.Sound.{text_is}
use Rattle.query_docs.proofs.text.read_text.Goals as goal

pub returns-clause-of_schema : goal.returns-clause-of_schema
returns-clause-of_schema c = text_is c.args.schema.now c.args.parameters.now c.args.text.now c.text_queries.result c.text_queries.ensures
