use Rattle.std.proofs.Common.{◌≤◌, take}
use Rattle.std.specs.BinaryHeap.{heap_items, heap_len, heap_capacity}
use Rattle.lock_table.specs.Queue.{AreQueued}
use Rattle.lock_table.proofs.noted.note_all.Given as goal

abbrev pub invariant-loop-lock : goal.invariant-loop-lock
invariant-loop-lock l = record {
  queued : AreQueued (heap_items l.deadlines.queue) (take l.lock-index l.locks);
  len : heap_len l.deadlines.queue ≤ l.lock-index;
  capacity : heap_capacity l.fn.deadlines.queue ≤ heap_capacity l.deadlines.queue;
}
