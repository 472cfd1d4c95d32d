use Rattle.doc_read.specs.Levels.{bounds_of}
use Rattle.doc_read.proofs.Scopes.{unknown_found, unknown_pass}
use Rattle.doc_read.proofs.names.has_unknown.Goals as goal

pub returns-then-is_unknown : goal.returns-then-is_unknown
returns-then-is_unknown c =
    unknown_found (bounds_of c.args.scope.now) c.args.raws.now c.loop-raw.raw-index c.raw-item.result c.is_unknown.result _ c.loop-raw-test.true c.raw-item.is c.is_unknown.ensures c.if-is_unknown.true c.loop-raw.invariant

pub loop-raw-preserved : goal.loop-raw-preserved
loop-raw-preserved c =
    unknown_pass (bounds_of c.args.scope.now) c.args.raws.now c.loop-raw.raw-index c.raw-item.result c.is_unknown.result _ c.loop-raw-test.true c.raw-item.is c.is_unknown.ensures c.if-is_unknown.false c.loop-raw.invariant
