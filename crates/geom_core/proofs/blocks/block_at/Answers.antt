use Rattle.std.proofs.Common.{arith}
use Rattle.geom_core.proofs.Passing.{block_at-read, block_at-many}
use Rattle.geom_core.proofs.blocks.block_at.Goals as goal

pub returns-clause-value : goal.returns-clause-value
returns-clause-value c = block_at-read c.args.ring.now c.args.number c.min-end.result (omega (arith, c.min-end.ensures)) c.requires.within

pub returns-clause-many : goal.returns-clause-many
returns-clause-many c = rw (returns-clause-value c) (block_at-many c.args.ring.now c.args.number)
