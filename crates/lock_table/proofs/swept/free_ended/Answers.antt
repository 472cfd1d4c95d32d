use Rattle.std.proofs.Common.{◌≡◌, ◌<◌, length, arith, subst}
use Rattle.feature_values.specs.declared.feature.Rid.{Rid}
use Rattle.lock_table.specs.Lock.{Lock}
use Rattle.lock_table.specs.Kept.{number_at, freed_of, ended_features}
use Rattle.lock_table.proofs.Keeping.{swept_step}
use Rattle.lock_table.proofs.Listed.{freed_step}
use Rattle.lock_table.proofs.swept.free_ended.Goals as goal

pub loop-lock-preserved : goal.loop-lock-preserved
loop-lock-preserved c =
    let i = c.loop-lock.lock-index in
    let lt : i < length c.args.locks.now = omega arith in
    let before = number_at c.loop-lock.holders.numbers in
    let after = number_at c.free_if_ended.new.holders.numbers in
    let freed = λ (f : Rid). subst (λ (l : Lock). after f ≡ freed_of l.number (ended_features c.args.last l) before f) c.lock-item.is (c.free_if_ended.ensures.freed f) in record {
      kept = λ given kept. swept_step c.args.last given i c.lock-item.result before after c.args.locks.now lt freed (c.loop-lock.invariant.kept given kept);
      freed = freed_step c.args.last i c.lock-item.result before after c.args.locks.now lt freed c.loop-lock.invariant.freed;
      mapped = omega (arith, c.free_if_ended.ensures.mapped, c.loop-lock.invariant.mapped);
      room = omega (arith, c.free_if_ended.ensures.room, c.loop-lock.invariant.room);
    }
