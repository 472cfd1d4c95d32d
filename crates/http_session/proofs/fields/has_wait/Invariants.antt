use Rattle.std.proofs.Common.{◌≡◌, take, false}
use Rattle.std.specs.List.{list_any}
use Rattle.http_session.specs.Fields.{is_wait_field, fields_at}
use Rattle.http_session.proofs.fields.has_wait.Given as goal

abbrev pub invariant-loop-header : goal.invariant-loop-header
invariant-loop-header l = list_any is_wait_field (fields_at l.bytes (take l.header-index l.headers)) ≡ false
