use Rattle.std.proofs.Common.{◌≤◌, length}
use Rattle.wfs_ends.specs.Ends.{KeepsGiven}
use Rattle.http_session.specs.Chunks.{chunk_of}
use Rattle.http_session.specs.Spots.{spot, Passes}
use Rattle.http_session.specs.Reading.{IsCalm}
use Rattle.http_session.proofs.chunks.read_data.Given as goal

abbrev pub invariant-loop-left : goal.invariant-loop-left
invariant-loop-left g l = (length l.content.items ≤ 4194304)
    × Passes (chunk_of l.fn.content.items l.fn.size) (chunk_of l.content.items l.left) (spot l.fn.allowed l.fn.buffer (g.S.Source.source l.fn.source)) (spot l.allowed l.buffer (g.S.Source.source l.source))
    × KeepsGiven (g.S.Source.source l.fn.source) (g.S.Source.source l.source)
    × IsCalm (g.S.Source.source l.fn.source) (g.S.Source.source l.source)

abbrev pub decreases-loop-left : goal.decreases-loop-left
decreases-loop-left g l = l.left
