use Rattle.std.proofs.Common.{arith}
use Rattle.lock_table.specs.Kept.{number_at}
use Rattle.lock_table.proofs.Map.{freed_more}
use Rattle.lock_table.proofs.holders.Holders.free.Goals as goal

pub loop-feature-preserved : goal.loop-feature-preserved
loop-feature-preserved c = record {
  freed = λ f. freed_more c.args.number (number_at c.args.self.now.numbers) (number_at c.loop-feature.self.numbers) (number_at c.take.new.self.numbers) c.args.features.now c.loop-feature.feature-index (record { kind = 0; number = 0 }) f (omega arith) (c.loop-feature.invariant.freed f) (c.take.ensures.freed f);
  len = omega (arith, c.take.ensures.len, c.loop-feature.invariant.len);
  room = omega (arith, c.take.ensures.room, c.loop-feature.invariant.room);
}
