use Rattle.std.proofs.Common.{List, ℕ}
use Rattle.wfs_ends.specs.Ends.{KeepsGiven}
use Rattle.http_session.specs.declared.chunks.Begun.TheVariants as begun
use Rattle.http_session.specs.Chunks.{stops}
use Rattle.http_session.specs.Reading.{IsCalm}
use Rattle.http_session.specs.Spots.{spot, Passes, after_trailer}
use Rattle.http_session.proofs.chunks.read_trailer.Given as goal

abbrev pub invariant-loop-byte : goal.invariant-loop-byte
invariant-loop-byte g l = KeepsGiven (g.S.Source.source l.fn.source) (g.S.Source.source l.source)
    × ((content : List ℕ) → Passes (λ w. stops (after_trailer content begun.Nothing w)) (λ w. stops (after_trailer content l.line w)) (spot l.fn.allowed l.fn.buffer (g.S.Source.source l.fn.source)) (spot l.allowed l.buffer (g.S.Source.source l.source)))
    × IsCalm (g.S.Source.source l.fn.source) (g.S.Source.source l.source)

abbrev pub decreases-loop-byte : goal.decreases-loop-byte
decreases-loop-byte g l = l.allowed
