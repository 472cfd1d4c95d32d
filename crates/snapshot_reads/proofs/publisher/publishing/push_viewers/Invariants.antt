use Rattle.std.proofs.Common.{◌≡◌, ◌≤◌, length, drop, vec_capacity}
use Rattle.left_right.specs.Sides.{view}
use Rattle.snapshot_reads.specs.Pairs.{schema_in}
use Rattle.snapshot_reads.specs.Viewers.{AreNew}
use Rattle.snapshot_reads.proofs.publisher.publishing.push_viewers.Given as goal

abbrev pub invariant-loop : goal.invariant-loop
invariant-loop l = (length l.viewers.items ≡ l.counter) × (l.fn.count ≤ vec_capacity l.viewers) × AreNew l.seen.book (schema_in l.seen.log) l.viewers.items
    × (l.writer.desk.shown.value ≡ l.fn.writer.desk.shown.value) × (drop l.writer.behind l.writer.log.items ≡ drop l.fn.writer.behind l.fn.writer.log.items) × (view l.writer.desk.place ≡ view l.fn.writer.desk.place)
