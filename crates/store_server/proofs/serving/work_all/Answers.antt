-- Workers sit down, do their work and stand up.
use denote.Exit.{no}
use denote.Param.Send.{param_send, arg_send}
use Rattle.std.proofs.Common.{rules, ◌≡◌, List, ◌++◌, length, map, take, drop, sym, ap, ◌∙◌, arith}
use Rattle.std.proofs.lemmas.List.{length-map, take_at}
use Rattle.session_workers.specs.declared.worker.Worker.{Worker}
use Rattle.store_server.specs.Seating.{workers_at}
use Rattle.store_server.proofs.Leaving.{seated_many, ran_at, all_began, all_named, have_worked}
use Rattle.store_server.proofs.serving.work_all.Goals as goal
use Rattle.shared_store.proofs.Sending.{desk_send}
use Rattle.shared_store.specs.Knowing.{Known}
use Rattle.shared_store.specs.Published.{pairs_of}
use Rattle.shared_store.specs.Seats.{Seated}
use Rattle.turnstile_core.specs.Seats.{name_of, past}

pub run_workers-requires-send-S : goal.run_workers-requires-send-S
run_workers-requires-send-S c κs = λ _ _. param_send _ _ (arg_send _ no _ (desk_send _ _ _ c.D.Disk _ κs.type_bounds.sync-R κs.type_bounds.send-D))

pub stand_up-requires-clause-seats_room : goal.stand_up-requires-clause-seats_room
stand_up-requires-clause-seats_room g c =
    let name = name_of c.args.turnstile.now in
    let schema = c.args.schema.now in
    let slots = c.args.slots.items in
    let pasts : List (Known g.row.D.Denot) = map past c.args.seats.now.items in
    let seats : length pasts ≡ length slots = length-map c.args.seats.now.items past ∙ sym c.requires.as_many.0 in
    let w1 : List (Worker (Seated g.row.D.Denot) g.row.A.Denot g.row.C.Denot g.row.G.Denot) = c.run_workers.new.workers in
    let w : List (Worker (Seated g.row.D.Denot) g.row.A.Denot g.row.C.Denot g.row.G.Denot) = take c.sit_down.new.workers.len (w1 ++ drop (length w1) c.sit_down.new.workers.items) in
    let kept : length w1 ≡ c.sit_down.new.workers.len = search rules in
    let back : w ≡ w1 = take_at w1 (drop (length w1) c.sit_down.new.workers.items) c.sit_down.new.workers.len kept in
    let many : length w ≡ length slots = ap length back ∙ seated_many name schema slots pasts c.sit_down.new.workers.items c.sit_down.new.workers.len w1 seats c.sit_down.ensures.workers kept (search rules) in
    (c.sit_down.ensures.seats, omega arith)

pub stand_up-requires-clause-ended_room : goal.stand_up-requires-clause-ended_room
stand_up-requires-clause-ended_room g c =
    let name = name_of c.args.turnstile.now in
    let schema = c.args.schema.now in
    let slots = c.args.slots.items in
    let pasts : List (Known g.row.D.Denot) = map past c.args.seats.now.items in
    let seats : length pasts ≡ length slots = length-map c.args.seats.now.items past ∙ sym c.requires.as_many.0 in
    let w1 : List (Worker (Seated g.row.D.Denot) g.row.A.Denot g.row.C.Denot g.row.G.Denot) = c.run_workers.new.workers in
    let w : List (Worker (Seated g.row.D.Denot) g.row.A.Denot g.row.C.Denot g.row.G.Denot) = take c.sit_down.new.workers.len (w1 ++ drop (length w1) c.sit_down.new.workers.items) in
    let kept : length w1 ≡ c.sit_down.new.workers.len = search rules in
    let back : w ≡ w1 = take_at w1 (drop (length w1) c.sit_down.new.workers.items) c.sit_down.new.workers.len kept in
    let many : length w ≡ length slots = ap length back ∙ seated_many name schema slots pasts c.sit_down.new.workers.items c.sit_down.new.workers.len w1 seats c.sit_down.ensures.workers kept (search rules) in
    (c.requires.ended_room.0, omega arith)

pub stand_up-requires-clause-views_room : goal.stand_up-requires-clause-views_room
stand_up-requires-clause-views_room g c =
    let name = name_of c.args.turnstile.now in
    let schema = c.args.schema.now in
    let slots = c.args.slots.items in
    let pasts : List (Known g.row.D.Denot) = map past c.args.seats.now.items in
    let seats : length pasts ≡ length slots = length-map c.args.seats.now.items past ∙ sym c.requires.as_many.0 in
    let w1 : List (Worker (Seated g.row.D.Denot) g.row.A.Denot g.row.C.Denot g.row.G.Denot) = c.run_workers.new.workers in
    let w : List (Worker (Seated g.row.D.Denot) g.row.A.Denot g.row.C.Denot g.row.G.Denot) = take c.sit_down.new.workers.len (w1 ++ drop (length w1) c.sit_down.new.workers.items) in
    let kept : length w1 ≡ c.sit_down.new.workers.len = search rules in
    let back : w ≡ w1 = take_at w1 (drop (length w1) c.sit_down.new.workers.items) c.sit_down.new.workers.len kept in
    let many : length w ≡ length slots = ap length back ∙ seated_many name schema slots pasts c.sit_down.new.workers.items c.sit_down.new.workers.len w1 seats c.sit_down.ensures.workers kept (search rules) in
    (c.sit_down.ensures.viewers, omega arith)

pub returns-clause-own : goal.returns-clause-own
returns-clause-own g c =
    let name = name_of c.args.turnstile.now in
    let schema = c.args.schema.now in
    let slots = c.args.slots.items in
    let pasts : List (Known g.row.D.Denot) = map past c.args.seats.now.items in
    let seats : length pasts ≡ length slots = length-map c.args.seats.now.items past ∙ sym c.requires.as_many.0 in
    let w1 : List (Worker (Seated g.row.D.Denot) g.row.A.Denot g.row.C.Denot g.row.G.Denot) = c.run_workers.new.workers in
    let w : List (Worker (Seated g.row.D.Denot) g.row.A.Denot g.row.C.Denot g.row.G.Denot) = take c.sit_down.new.workers.len (w1 ++ drop (length w1) c.sit_down.new.workers.items) in
    let kept : length w1 ≡ c.sit_down.new.workers.len = search rules in
    let back : w ≡ w1 = take_at w1 (drop (length w1) c.sit_down.new.workers.items) c.sit_down.new.workers.len kept in
    let many : length w ≡ length slots = ap length back ∙ seated_many name schema slots pasts c.sit_down.new.workers.items c.sit_down.new.workers.len w1 seats c.sit_down.ensures.workers kept (search rules) in
    let run = ran_at g.A.Acceptor.accepting g.C.Clock.moments c.args.limit c.deref_mut.result.now c.sit_down.new.workers.items w1 w (workers_at name schema slots pasts) c.deref_mut.ensures.value c.sit_down.ensures.workers back c.run_workers.ensures in
    c.stand_up.ensures.own name (all_named g.A.Acceptor.accepting g.C.Clock.moments c.args.limit name schema slots pasts w seats many run)

pub returns-clause-worked : goal.returns-clause-worked
returns-clause-worked g c =
    let name = name_of c.args.turnstile.now in
    let schema = c.args.schema.now in
    let slots = c.args.slots.items in
    let pasts : List (Known g.row.D.Denot) = map past c.args.seats.now.items in
    let seats : length pasts ≡ length slots = length-map c.args.seats.now.items past ∙ sym c.requires.as_many.0 in
    let w1 : List (Worker (Seated g.row.D.Denot) g.row.A.Denot g.row.C.Denot g.row.G.Denot) = c.run_workers.new.workers in
    let w : List (Worker (Seated g.row.D.Denot) g.row.A.Denot g.row.C.Denot g.row.G.Denot) = take c.sit_down.new.workers.len (w1 ++ drop (length w1) c.sit_down.new.workers.items) in
    let kept : length w1 ≡ c.sit_down.new.workers.len = search rules in
    let back : w ≡ w1 = take_at w1 (drop (length w1) c.sit_down.new.workers.items) c.sit_down.new.workers.len kept in
    let many : length w ≡ length slots = ap length back ∙ seated_many name schema slots pasts c.sit_down.new.workers.items c.sit_down.new.workers.len w1 seats c.sit_down.ensures.workers kept (search rules) in
    let run = ran_at g.A.Acceptor.accepting g.C.Clock.moments c.args.limit c.deref_mut.result.now c.sit_down.new.workers.items w1 w (workers_at name schema slots pasts) c.deref_mut.ensures.value c.sit_down.ensures.workers back c.run_workers.ensures in
    have_worked g.A.Acceptor.accepting g.C.Clock.moments c.args.limit name schema slots pasts w seats many run c.stand_up.new.ended.items (map past c.stand_up.new.seats.items) (map pairs_of c.stand_up.new.viewers.items) c.stand_up.ensures.left c.stand_up.ensures.seats c.stand_up.ensures.found

pub returns-clause-views : goal.returns-clause-views
returns-clause-views g c = λ first began.
    let name = name_of c.args.turnstile.now in
    let schema = c.args.schema.now in
    let slots = c.args.slots.items in
    let pasts : List (Known g.row.D.Denot) = map past c.args.seats.now.items in
    let seats : length pasts ≡ length slots = length-map c.args.seats.now.items past ∙ sym c.requires.as_many.0 in
    let w1 : List (Worker (Seated g.row.D.Denot) g.row.A.Denot g.row.C.Denot g.row.G.Denot) = c.run_workers.new.workers in
    let w : List (Worker (Seated g.row.D.Denot) g.row.A.Denot g.row.C.Denot g.row.G.Denot) = take c.sit_down.new.workers.len (w1 ++ drop (length w1) c.sit_down.new.workers.items) in
    let kept : length w1 ≡ c.sit_down.new.workers.len = search rules in
    let back : w ≡ w1 = take_at w1 (drop (length w1) c.sit_down.new.workers.items) c.sit_down.new.workers.len kept in
    let many : length w ≡ length slots = ap length back ∙ seated_many name schema slots pasts c.sit_down.new.workers.items c.sit_down.new.workers.len w1 seats c.sit_down.ensures.workers kept (search rules) in
    let run = ran_at g.A.Acceptor.accepting g.C.Clock.moments c.args.limit c.deref_mut.result.now c.sit_down.new.workers.items w1 w (workers_at name schema slots pasts) c.deref_mut.ensures.value c.sit_down.ensures.workers back c.run_workers.ensures in
    c.stand_up.ensures.views first (all_began g.A.Acceptor.accepting g.C.Clock.moments c.args.limit name schema slots pasts w seats many run first began)
