use Rattle.std.proofs.Common.{◌≡◌, length}
use Rattle.std.specs.BinaryHeap.{heap_items, heap_capacity}
use Rattle.std.specs.HashMap.{spare}
use Rattle.std.specs.Vec.{vec_len, vec_capacity}
use Rattle.lock_table.specs.Held.{live}
use Rattle.lock_table.specs.Kept.{number_at, AreKept, HasRoom}
use Rattle.lock_table.specs.Queue.{due_count, AreQueued}
use Rattle.lock_table.proofs.table.LockTable.expire.Given as goal

abbrev pub invariant-loop-number : goal.invariant-loop-number
invariant-loop-number l = record {
  same : record l.fn.self {
    locks = live l.self-inside.last l.self-inside.locks.items;
    opening = l.self-inside.opening;
    given = l.self-inside.given;
    last = l.self-inside.last;
    spare = l.self-inside.spare;
    kept = vec_len l.self-inside.locks;
  } ≡ l.fn.self;
  agree : AreKept l.self-inside.last l.self-inside.given (number_at l.self-inside.holders.numbers) l.self-inside.locks.items;
  room : HasRoom l.self-inside.spare (spare l.self-inside.holders.numbers) (vec_len l.self-inside.locks) (vec_capacity l.self-inside.locks) (heap_capacity l.self-inside.deadlines.queue);
  queued : AreQueued (heap_items l.self-inside.deadlines.queue) l.self-inside.locks.items;
  count : l.self-inside.standing ≡ length (live 0 l.self-inside.locks.items);
}

abbrev pub decreases-loop-number : goal.decreases-loop-number
decreases-loop-number l = due_count l.self-inside.last (heap_items l.self-inside.deadlines.queue)
