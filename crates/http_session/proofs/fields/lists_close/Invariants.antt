use Rattle.std.proofs.Common.{◌≡◌, length, codes}
use Rattle.std.specs.List.{list_any}
use Rattle.http_session.specs.Fields.{is_padded, parts_of}
use Rattle.http_session.proofs.fields.lists_close.Given as goal

abbrev pub invariant-loop-tail : goal.invariant-loop-tail
invariant-loop-tail l = list_any (is_padded (codes "close")) (parts_of l.value) ≡ list_any (is_padded (codes "close")) (parts_of l.rest)

abbrev pub decreases-loop-tail : goal.decreases-loop-tail
decreases-loop-tail l = length l.rest
