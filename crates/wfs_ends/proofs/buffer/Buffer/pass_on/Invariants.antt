use Rattle.std.proofs.Common.{◌≡◌, ◌≤◌, ◌-◌, length, drop, vec_capacity}
use Rattle.wfs_ends.specs.Ends.{KeepsLeft, Grows, given_more}
use Rattle.wfs_ends.proofs.buffer.Buffer.pass_on.Given as goal

abbrev pub invariant-loop-self : goal.invariant-loop-self
invariant-loop-self g l = (l.self-inside.sent ≤ length l.self-inside.bytes.items) × (65_536 ≤ vec_capacity l.self-inside.bytes)
    × (given_more (g.S.Sink.sink l.sink).given (drop l.self-inside.sent l.self-inside.bytes.items) ≡ given_more (g.S.Sink.sink l.fn.sink).given l.fn.self)
    × Grows (g.S.Sink.sink l.fn.sink).given (g.S.Sink.sink l.sink).given
    × KeepsLeft (g.S.Sink.sink l.fn.sink) (g.S.Sink.sink l.sink)
    × ((g.S.Sink.sink l.sink).failed_puts ≡ (g.S.Sink.sink l.fn.sink).failed_puts)

abbrev pub decreases-loop-self : goal.decreases-loop-self
decreases-loop-self g l = length l.self-inside.bytes.items - l.self-inside.sent
