use Rattle.std.proofs.Common.{◌≡◌, ◌+◌, ◌≤◌, ◌++◌, length, All}
use Rattle.std.specs.Vec.{vec_len, vec_capacity}
use Rattle.std.specs.Vec.Iter.{into_iter_items}
use Rattle.wfs_world.specs.Events.{IsEventOf, all_seen}
use Rattle.wfs_world.specs.Happening.{AllHappen}
use Rattle.wfs_world.proofs.world.World.run.Given as goal

abbrev pub invariant-loop-event : goal.invariant-loop-event
invariant-loop-event l = record {
  of : All (IsEventOf l.self.schema) (into_iter_items l.event-iterator);
  split : l.yielded ++ into_iter_items l.event-iterator ≡ l.fn.events;
  done : AllHappen l.fn.self l.yielded l.self;
  seen : l.seen.items ≡ all_seen l.fn.self l.yielded;
  room : vec_len l.seen + length (into_iter_items l.event-iterator) ≤ vec_capacity l.seen;
}
