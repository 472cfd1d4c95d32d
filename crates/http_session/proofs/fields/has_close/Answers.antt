use Rattle.std.proofs.Common.{codes}
use Rattle.http_session.specs.Fields.{lists_close}
use Rattle.http_session.proofs.FieldReads.{field_found, field_nowhere, no_header}
use Rattle.http_session.proofs.fields.has_close.Goals as goal

pub returns-then-is_close : goal.returns-then-is_close
returns-then-is_close c = field_found (codes "connection") lists_close c.args.bytes.now c.args.headers.now c.loop-header.header-index no_header c.loop-header-test.true c.if-is_close.ensures

pub returns : goal.returns
returns c = field_nowhere (codes "connection") lists_close c.args.bytes.now c.args.headers.now c.loop-header.header-index c.loop-header-test.false c.loop-header.invariant
