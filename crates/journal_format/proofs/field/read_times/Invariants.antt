use Rattle.std.proofs.Common.{◌≡◌, ◌-◌, []}
use Rattle.journal_format.specs.Reading.{times}
use Rattle.journal_format.proofs.field.read_times.Given as goal

abbrev pub invariant-loop : goal.invariant-loop
invariant-loop g l = times g.T.Field.reading (l.count - l.counter) l.found.items l.rest ≡ times g.T.Field.reading l.count [] l.bytes
