use Rattle.std.proofs.Common.{◌≤◌, length}
use Rattle.wfs_ends.specs.Ends.{KeepsGiven}
use Rattle.http_session.specs.Spots.{spot}
use Rattle.http_session.specs.Reading.{IsCalm}
use Rattle.http_session.proofs.Follows.{Follows}
use Rattle.http_session.proofs.chunks.read_chunked.Given as goal

abbrev pub invariant-loop-content : goal.invariant-loop-content
invariant-loop-content g l = (length l.content.items ≤ 4194304)
    × Follows (spot 8388608 l.fn.buffer (g.S.Source.source l.fn.source)) l.content.items (spot l.allowed l.buffer (g.S.Source.source l.source))
    × KeepsGiven (g.S.Source.source l.fn.source) (g.S.Source.source l.source)
    × IsCalm (g.S.Source.source l.fn.source) (g.S.Source.source l.source)

abbrev pub decreases-loop-content : goal.decreases-loop-content
decreases-loop-content g l = l.allowed
