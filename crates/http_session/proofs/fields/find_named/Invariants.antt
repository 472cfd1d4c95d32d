use Rattle.std.proofs.Common.{◌≡◌, take}
use Rattle.http_session.specs.Fields.{found, found_of, values_of, fields_at}
use Rattle.http_session.proofs.fields.find_named.Given as goal

abbrev pub invariant-loop-header : goal.invariant-loop-header
invariant-loop-header l = found l.found ≡ found_of (values_of l.name (fields_at l.bytes (take l.header-index l.headers)))
