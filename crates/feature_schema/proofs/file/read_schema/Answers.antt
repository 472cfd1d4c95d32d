use Rattle.feature_schema.proofs.Rules.{keeps_rules}
use Rattle.feature_schema.proofs.file.read_schema.Goals as goal

pub returns-clause-keeps : goal.returns-clause-keeps
returns-clause-keeps c = keeps_rules c.args.bytes.now c.schema_of.result c.schema_of.ensures
