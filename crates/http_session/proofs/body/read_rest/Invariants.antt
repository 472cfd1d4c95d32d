use Rattle.std.proofs.Common.{◌≡◌, ◌≤◌, ◌-◌, length, take}
use Rattle.wfs_ends.specs.Ends.{KeepsGiven}
use Rattle.http_session.specs.Reading.{after_buffer, IsCalm}
use Rattle.http_session.proofs.body.read_rest.Given as goal

abbrev pub invariant-loop-filled : goal.invariant-loop-filled
invariant-loop-filled g l = (l.filled ≤ length l.body) × (length l.body ≡ length l.fn.body) × (l.fn.start ≤ l.filled) × KeepsGiven (g.S.Source.source l.fn.source) (g.S.Source.source l.source)
    × (after_buffer (take l.fn.start l.fn.body) (g.S.Source.source l.fn.source).left ≡ after_buffer (take l.filled l.body) (g.S.Source.source l.source).left)
    × IsCalm (g.S.Source.source l.fn.source) (g.S.Source.source l.source)

abbrev pub decreases-loop-filled : goal.decreases-loop-filled
decreases-loop-filled g l = length l.body - l.filled
