-- The last seat and the last slot that are left come together.
use Rattle.std.proofs.Common.{rules, ◌≡◌, [], ◌∷◌, ◌++◌, Option, Some, length, map, sym, ap, ◌∙◌, arith}
use Rattle.std.specs.Option.{option_to_list}
use Rattle.std.proofs.lemmas.List.{length_push, length-map}
use Rattle.std.proofs.lemmas.List.Elements.{All-pop}
use Rattle.session_workers.specs.declared.worker.Worker.{Worker}
use Rattle.snapshot_reads.specs.declared.viewer.Viewer.{Viewer}
use Rattle.store_server.specs.declared.slot.Slot.{Slot}
use Rattle.store_server.specs.Seating.{MayServe, worker_of, workers_at}
use Rattle.store_server.specs.Serving.{desk_at}
use Rattle.store_server.proofs.Views.{last_served}
use Rattle.store_server.proofs.Stacks.{joined, popped, popped_all, popped_order}
use Rattle.store_server.proofs.seating.sit_down.Goals as goal
use Rattle.shared_store.specs.Knowing.{Known}
use Rattle.shared_store.specs.Published.{pairs_of}
use Rattle.shared_store.specs.Seats.{Seated, IsOfOpening}
use Rattle.turnstile_core.specs.Seats.{name_of, past, IsFreeAt}

pub of-desk-requires-clause-number : goal.of-desk-requires-clause-number
of-desk-requires-clause-number g c =
    let last = (popped_order past c.loop-seat.seats.items c.pop.new.self.items c.in-Some.seat c.in-Some.ensures.items c.loop-seat.invariant.order).1 in
    omega arith

pub of-desk-requires-clause-opening : goal.of-desk-requires-clause-opening
of-desk-requires-clause-opening g c =
    (popped_all past c.loop-seat.seats.items c.pop.new.self.items c.in-Some.seat c.in-Some.ensures.items (IsOfOpening {D = g.row.D.Denot} c.args.schema.now) c.loop-seat.invariant.opening).1

pub of-desk-requires-clause-viewer : goal.of-desk-requires-clause-viewer
of-desk-requires-clause-viewer g c =
    let i = c.loop-seat.invariant in
    let viewer : Option Viewer = c.unwrap-viewer.result in
    let viewers : c.loop-seat.viewers.items ≡ c.pop-in-Some-2.new.self.items ++ viewer ∷ [] = c.pop-in-Some-2.ensures.items ∙ ap (λ r. c.pop-in-Some-2.new.self.items ++ option_to_list r) c.unwrap-viewer.ensures in
    last_served c.args.schema.now i.views.first (past c.in-Some.seat) viewer
    (popped_all past c.loop-seat.seats.items c.pop.new.self.items c.in-Some.seat c.in-Some.ensures.items (λ (p : Known g.row.D.Denot). p.origin ≡ i.views.first ∷ []) i.views.began).1
    (All-pop (MayServe c.args.schema.now i.views.first) c.loop-seat.viewers.items c.pop-in-Some-2.new.self.items (Some viewer) viewers i.views.serve).1

pub loop-seat-preserved : goal.loop-seat-preserved
loop-seat-preserved g c =
    let i = c.loop-seat.invariant in
    let name = name_of c.args.turnstile.now in
    let schema = c.args.schema.now in
    let slot : Slot g.row.A.Denot g.row.C.Denot g.row.G.Denot = c.unwrap-slot.result in
    let known : Known g.row.D.Denot = past c.in-Some.seat in
    let slots : c.loop-seat.slots.items ≡ c.pop-in-Some.new.self.items ++ slot ∷ [] = c.pop-in-Some.ensures.items ∙ ap (λ r. c.pop-in-Some.new.self.items ++ option_to_list r) c.unwrap-slot.ensures in
    let seats : c.loop-seat.seats.items ≡ c.pop.new.self.items ++ c.in-Some.seat ∷ [] = c.in-Some.ensures.items in
    let pushed : c.push.new.self.items ≡ c.loop-seat.workers.items ++ c.worker_of.result ∷ [] = search rules in
    let viewer : Option Viewer = c.unwrap-viewer.result in
    let viewers : c.loop-seat.viewers.items ≡ c.pop-in-Some-2.new.self.items ++ viewer ∷ [] = c.pop-in-Some-2.ensures.items ∙ ap (λ r. c.pop-in-Some-2.new.self.items ++ option_to_list r) c.unwrap-viewer.ensures in
    let fewer_viewers = ap length viewers ∙ length_push c.pop-in-Some-2.new.self.items viewer in
    let served = All-pop (MayServe schema i.views.first) c.loop-seat.viewers.items c.pop-in-Some-2.new.self.items (Some viewer) viewers i.views.serve in
    let nothing : pairs_of viewer ≡ [] = served.1.none in
    let fewer_slots = ap length slots ∙ length_push c.pop-in-Some.new.self.items slot in
    let fewer_seats = ap length seats ∙ length_push c.pop.new.self.items c.in-Some.seat in
    let more = ap length pushed ∙ length_push c.loop-seat.workers.items c.worker_of.result in
    let as_many : length c.pop-in-Some.new.self.items ≡ length c.pop.new.self.items = omega arith in
    let worker : c.worker_of.result ≡ worker_of (desk_at name schema known []) slot = c.worker_of.ensures ∙ ap (λ (s : Seated g.row.D.Denot). worker_of s slot) (c.of-desk.ensures ∙ ap (desk_at name schema known) nothing) in
    let pasts = popped past c.loop-seat.seats.items c.pop.new.self.items c.in-Some.seat seats in
    record {
      own = (All-pop (IsFreeAt name) c.loop-seat.seats.items c.pop.new.self.items (Some c.in-Some.seat) seats i.own).0;
      opening = (popped_all past c.loop-seat.seats.items c.pop.new.self.items c.in-Some.seat seats (IsOfOpening {D = g.row.D.Denot} schema) i.opening).0;
      order = (popped_order past c.loop-seat.seats.items c.pop.new.self.items c.in-Some.seat seats i.order).0;
      as_many = as_many;
      views = record {
        first = i.views.first;
        began = (popped_all past c.loop-seat.seats.items c.pop.new.self.items c.in-Some.seat seats (λ (p : Known g.row.D.Denot). p.origin ≡ i.views.first ∷ []) i.views.began).0;
        serve = served.0;
      };
      as_many_views = omega arith;
      few = i.few;
      all = omega arith;
      seated = joined (λ (o : Slot g.row.A.Denot g.row.C.Denot g.row.G.Denot) (k : Known g.row.D.Denot). worker_of (desk_at name schema k []) o)
          c.loop-seat.slots.items c.pop-in-Some.new.self.items (map past c.loop-seat.seats.items) (map past c.pop.new.self.items) c.loop-seat.workers.items c.push.new.self.items
          (workers_at name schema c.args.slots.items (map past c.args.seats.now.items)) slot known slots pasts
          (as_many ∙ sym (length-map c.pop.new.self.items past))
          (pushed ∙ ap (λ (w : Worker (Seated g.row.D.Denot) g.row.A.Denot g.row.C.Denot g.row.G.Denot). c.loop-seat.workers.items ++ w ∷ []) worker) i.seated;
      workers_room = omega arith;
      seats_room = omega arith;
      views_room = omega arith;
    }
