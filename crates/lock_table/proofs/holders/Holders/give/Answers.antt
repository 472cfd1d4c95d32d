use Rattle.std.proofs.Common.{arith}
use Rattle.lock_table.specs.Kept.{number_at}
use Rattle.lock_table.proofs.Map.{given_more}
use Rattle.lock_table.proofs.holders.Holders.give.Goals as goal

pub loop-feature-preserved : goal.loop-feature-preserved
loop-feature-preserved c = record {
  held = λ f. given_more c.args.number (number_at c.args.self.now.numbers) (number_at c.loop-feature.self.numbers) (number_at c.put.new.self.numbers) c.args.features.now c.loop-feature.feature-index (record { kind = 0; number = 0 }) f (omega arith) (c.loop-feature.invariant.held f) (c.put.ensures.held f);
  room = omega (arith, c.put.ensures.room, c.loop-feature.invariant.room);
}
