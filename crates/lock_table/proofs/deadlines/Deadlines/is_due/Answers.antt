use Rattle.std.proofs.Common.{arith}
use Rattle.lock_table.proofs.Queued.{any_come}
use Rattle.lock_table.proofs.deadlines.Deadlines.is_due.Goals as goal

pub returns-in-Some : goal.returns-in-Some
returns-in-Some c =
    let top = c.in-Some.field-0.now in
    any_come c.args.moment top c.args.self.now.queue.data.items _ (grind (arith, c.from.ensures)) c.in-Some.ensures.lookup (grind (arith, c.peek.ensures.variant)) (c.in-Some.ensures.greatest c.args.self.now.ordered)
