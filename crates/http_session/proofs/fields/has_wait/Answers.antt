use Rattle.std.proofs.Common.{codes}
use Rattle.http_session.specs.Fields.{asks_to_wait}
use Rattle.http_session.proofs.FieldReads.{field_found, field_nowhere, no_header}
use Rattle.http_session.proofs.fields.has_wait.Goals as goal

pub returns-then-is_wait : goal.returns-then-is_wait
returns-then-is_wait c = field_found (codes "expect") asks_to_wait c.args.bytes.now c.args.headers.now c.loop-header.header-index no_header c.loop-header-test.true c.if-is_wait.ensures

pub returns : goal.returns
returns c = field_nowhere (codes "expect") asks_to_wait c.args.bytes.now c.args.headers.now c.loop-header.header-index c.loop-header-test.false c.loop-header.invariant
