use Rattle.query_docs.proofs.Kept.{definition_keeps}
use Rattle.query_docs.proofs.Sound.{definition_is}
use Rattle.query_docs.proofs.definition.read_definition.Goals as goal

pub returns-clause-of_schema : goal.returns-clause-of_schema
returns-clause-of_schema c = definition_is c.args.schema.now c.args.element.now c.definition_of.result c.definition_of.ensures

pub returns-clause-kept : goal.returns-clause-kept
returns-clause-kept c = λ keeps fit. definition_keeps c.args.schema.now c.args.element.now c.definition_of.result keeps fit c.definition_of.ensures
