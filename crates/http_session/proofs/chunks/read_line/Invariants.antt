use Rattle.wfs_ends.specs.Ends.{KeepsGiven}
use Rattle.http_session.specs.Spots.{spot, Passes}
use Rattle.http_session.specs.Lines.{line_of, line_from, IsState}
use Rattle.http_session.specs.Reading.{IsCalm}
use Rattle.http_session.proofs.chunks.read_line.Given as goal

abbrev pub invariant-loop-byte : goal.invariant-loop-byte
invariant-loop-byte g l = IsState l.state
    × Passes line_of (line_from l.state) (spot l.fn.allowed l.fn.buffer (g.S.Source.source l.fn.source)) (spot l.allowed l.buffer (g.S.Source.source l.source))
    × KeepsGiven (g.S.Source.source l.fn.source) (g.S.Source.source l.source)
    × IsCalm (g.S.Source.source l.fn.source) (g.S.Source.source l.source)

abbrev pub decreases-loop-byte : goal.decreases-loop-byte
decreases-loop-byte g l = l.allowed
