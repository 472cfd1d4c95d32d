use Rattle.std.proofs.Common.{◌≡◌, ◌≤◌, ◌+◌, ◌++◌, All, map, length, reverse, vec_len, vec_capacity}
use Rattle.store_server.specs.Seating.{AreInOrder, HaveViews, workers_at}
use Rattle.shared_store.specs.Seats.{IsOfOpening}
use Rattle.turnstile_core.specs.Seats.{name_of, past, IsFreeAt}
use Rattle.store_server.proofs.seating.sit_down.Given as goal

abbrev pub invariant-loop-seat : goal.invariant-loop-seat
invariant-loop-seat g l = record {
  own : All (IsFreeAt (name_of l.fn.turnstile)) l.seats.items;
  opening : All (IsOfOpening l.fn.schema) (map past l.seats.items);
  order : AreInOrder (map past l.seats.items);
  as_many : length l.slots.items ≡ length l.seats.items;
  views : HaveViews l.fn.schema (map past l.seats.items) l.viewers.items;
  as_many_views : length l.viewers.items ≡ length l.seats.items;
  few : length l.fn.slots.items ≤ 16;
  all : length l.workers.items + length l.seats.items ≡ length l.fn.slots.items;
  seated : workers_at (name_of l.fn.turnstile) l.fn.schema l.slots.items (map past l.seats.items) ++ reverse l.workers.items
      ≡ workers_at (name_of l.fn.turnstile) l.fn.schema l.fn.slots.items (map past l.fn.seats.items);
  workers_room : length l.fn.slots.items ≤ vec_capacity l.workers;
  seats_room : vec_capacity l.fn.seats ≤ vec_capacity l.seats;
  views_room : vec_capacity l.fn.viewers ≤ vec_capacity l.viewers;
}

abbrev pub decreases-loop-seat : goal.decreases-loop-seat
decreases-loop-seat g l = vec_len l.seats
