use Rattle.std.proofs.Common.{◌≡◌, ◌≤◌, ◌+◌, ◌++◌, List, [], ◌∷◌, All, IsSome, map, length, reverse, vec_len, vec_capacity}
use Rattle.std.specs.List.{AllZip}
use Rattle.atomic_table.specs.Seated.{TableId}
use Rattle.session_workers.specs.declared.worker.Worker.{Worker}
use Rattle.store_server.specs.Seating.{HasLeft}
use Rattle.shared_store.specs.declared.counter.Counter.{Counter}
use Rattle.shared_store.specs.Counters.{IsViewerAt}
use Rattle.shared_store.specs.Published.{pairs_of}
use Rattle.shared_store.specs.Seats.{Seated}
use Rattle.turnstile_core.specs.Seats.{past, IsFreeAt}
use Rattle.store_server.proofs.seating.stand_up.Given as goal

abbrev pub invariant-loop-worker : goal.invariant-loop-worker
invariant-loop-worker g l = (done : List (Worker (Seated g.row.D.Denot) g.row.A.Denot g.row.C.Denot g.row.G.Denot)) × record {
  parts : l.fn.workers.items ≡ done ++ reverse l.sitting.items;
  left : AllZip HasLeft done l.ended.items;
  seats : map past l.seats.items ≡ map (λ worker. worker.service.past) done;
  found : map pairs_of l.viewers.items ≡ map (λ worker. worker.service.found) done;
  views : (first : Counter g.row.D.Denot) → All (λ (worker : Worker (Seated g.row.D.Denot) g.row.A.Denot g.row.C.Denot g.row.G.Denot). worker.service.past.origin ≡ first ∷ []) done → All (IsViewerAt first) l.viewers.items;
  own : (name : TableId) → All (λ (worker : Worker (Seated g.row.D.Denot) g.row.A.Denot g.row.C.Denot g.row.G.Denot). worker.service.name ≡ name) done → All (IsFreeAt name) l.seats.items;
  ended : All (λ (worker : Worker (Seated g.row.D.Denot) g.row.A.Denot g.row.C.Denot g.row.G.Denot). IsSome worker.end) l.sitting.items;
  seats_many : length l.seats.items + length l.sitting.items ≡ length l.fn.workers.items;
  views_many : length l.viewers.items + length l.sitting.items ≡ length l.fn.workers.items;
  ended_many : length l.ended.items + length l.sitting.items ≡ length l.fn.workers.items;
  seats_room : length l.fn.workers.items ≤ vec_capacity l.seats;
  views_room : length l.fn.workers.items ≤ vec_capacity l.viewers;
  ended_room : length l.fn.workers.items ≤ vec_capacity l.ended;
}

abbrev pub decreases-loop-worker : goal.decreases-loop-worker
decreases-loop-worker g l = vec_len l.sitting
