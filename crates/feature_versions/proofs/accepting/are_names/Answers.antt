use Rattle.std.proofs.Common.{sym, ◌∙◌}
use Rattle.feature_versions.proofs.Naming.{stops_at, goes_past, no_more_names}
use Rattle.feature_versions.proofs.accepting.are_names.Goals as goal

pub returns-then-not-is_apart : goal.returns-then-not-is_apart
returns-then-not-is_apart c =
    stops_at c.args.names.now c.loop-i.i c.as_str.result.now c.index-names-i.result c.is_apart.result c.loop-i.invariant c.loop-i-test.true c.as_str.ensures.value c.index-names-i.is c.is_apart.ensures c.if-not-is_apart.true

pub loop-i-preserved : goal.loop-i-preserved
loop-i-preserved c =
    goes_past c.args.names.now c.loop-i.i c.as_str.result.now c.index-names-i.result c.is_apart.result c.loop-i.invariant c.loop-i-test.true c.as_str.ensures.value c.index-names-i.is c.is_apart.ensures c.if-not-is_apart.false

pub returns : goal.returns
returns c = sym (no_more_names c.args.names.now c.loop-i.i c.loop-i-test.false) ∙ c.loop-i.invariant
