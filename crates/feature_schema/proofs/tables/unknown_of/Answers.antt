use Rattle.std.proofs.Common.{ap, Some, ◌∙◌}
use Rattle.feature_schema.proofs.Toml.{unknown_is}
use Rattle.feature_schema.proofs.tables.unknown_of.Goals as goal

pub returns-in-Some : goal.returns-in-Some
returns-in-Some c =
    let e = unknown_is c.args.known.now c.args.table.now.entries c.other_key.result c.other_key.ensures in
    ap Some c.as_str.ensures.value ∙ rw c.in-Some.is at e

pub returns-in-None : goal.returns-in-None
returns-in-None c =
    let e = unknown_is c.args.known.now c.args.table.now.entries c.other_key.result c.other_key.ensures in
    rw c.in-None.is at e
