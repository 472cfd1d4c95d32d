-- One worker after the other leaves its seat.
use Rattle.std.proofs.Common.{rules, ◌≡◌, List, [], ◌∷◌, ◌++◌, Option, Some, All, IsSome, length, map, reverse, refl, sym, ap, ◌∙◌, subst, arith}
use Rattle.std.specs.List.{AllZip}
use Rattle.std.proofs.lemmas.List.{append-nil, length_push, map-append, reverse-reverse}
use Rattle.std.proofs.lemmas.List.Elements.{All-nil, All-pop, All-push}
use Rattle.std.proofs.lemmas.Slice.Zip.{all_zipped_more}
use Rattle.session_workers.specs.declared.worker.Worker.{Worker}
use Rattle.snapshot_reads.specs.declared.book.Pair.{Pair}
use Rattle.snapshot_reads.specs.declared.viewer.Viewer.{Viewer}
use Rattle.store_server.specs.declared.slot.Ended.{Ended}
use Rattle.store_server.specs.Seating.{HasLeft}
use Rattle.store_server.proofs.Lists.{All-reverse}
use Rattle.store_server.proofs.Stacks.{one_more_done}
use Rattle.store_server.proofs.seating.stand_up.Goals as goal
use Rattle.shared_store.specs.Counters.{IsViewerAt}
use Rattle.shared_store.specs.Knowing.{Known}
use Rattle.shared_store.specs.Published.{pairs_of}
use Rattle.shared_store.specs.Seats.{Seated}
use Rattle.turnstile_core.specs.Seats.{past, IsFreeAt}

pub loop-worker-init : goal.loop-worker-init
loop-worker-init g c =
    let P : Worker (Seated g.row.D.Denot) g.row.A.Denot g.row.C.Denot g.row.G.Denot → Type 0 = λ w. IsSome w.end in
    let no_seats = ap length c.requires.seats_room.0 in
    let no_views = ap length c.requires.views_room.0 in
    let no_ended = ap length c.requires.ended_room.0 in
    let turned = ap length c.reverse.ensures.items in (
      [],
      record {
        parts = sym (ap reverse c.reverse.ensures.items ∙ reverse-reverse c.args.workers.items);
        left = subst (λ (l : List (Ended g.row.A.Denot g.row.C.Denot g.row.G.Denot)). AllZip (HasLeft {S = Seated g.row.D.Denot}) [] l) (sym c.requires.ended_room.0) tt;
        seats = ap (map past) c.requires.seats_room.0;
        found = ap (map pairs_of) c.requires.views_room.0;
        views = λ first all. subst (λ (l : List (Option Viewer)). All (IsViewerAt first) l) (sym c.requires.views_room.0) (All-nil (IsViewerAt first));
        own = λ name all. subst (λ l. All (IsFreeAt name) l) (sym c.requires.seats_room.0) (All-nil (IsFreeAt name));
        ended = subst (λ (l : List (Worker (Seated g.row.D.Denot) g.row.A.Denot g.row.C.Denot g.row.G.Denot)). All P l) (sym c.reverse.ensures.items) (All-reverse P c.args.workers.items c.requires.ended);
        seats_many = search rules;
        views_many = search rules;
        ended_many = search rules;
        seats_room = c.requires.seats_room.1;
        views_room = c.requires.views_room.1;
        ended_room = c.requires.ended_room.1;
      },
    )

pub take_apart-desk-requires : goal.take_apart-desk-requires
take_apart-desk-requires g c =
    let P : Worker (Seated g.row.D.Denot) g.row.A.Denot g.row.C.Denot g.row.G.Denot → Type 0 = λ w. IsSome w.end in
    record { ended = (All-pop P c.loop-worker.sitting.items c.pop.new.self.items (Some c.in-Some.worker) c.in-Some.ensures.items c.loop-worker.invariant.1.ended).1 }

pub loop-worker-preserved : goal.loop-worker-preserved
loop-worker-preserved g c =
    let done = c.loop-worker.invariant.0 in
    let i = c.loop-worker.invariant.1 in
    let w = c.in-Some.worker in
    let P : Worker (Seated g.row.D.Denot) g.row.A.Denot g.row.C.Denot g.row.G.Denot → Type 0 = λ w. IsSome w.end in
    let known : Worker (Seated g.row.D.Denot) g.row.A.Denot g.row.C.Denot g.row.G.Denot → Known g.row.D.Denot = λ w. w.service.past in
    let popped : c.loop-worker.sitting.items ≡ c.pop.new.self.items ++ w ∷ [] = c.in-Some.ensures.items in
    let seated : c.push.new.self.items ≡ c.loop-worker.seats.items ++ c.leave-seat.result.0 ∷ [] = search rules in
    let viewed : c.push-in-Some.new.self.items ≡ c.loop-worker.viewers.items ++ c.leave-seat.result.1 ∷ [] = search rules in
    let ended : c.push-in-Some-2.new.self.items ≡ c.loop-worker.ended.items ++ c.take_apart-desk.result.1 ∷ [] = search rules in
    let seat : past c.leave-seat.result.0 ≡ known w = c.leave-seat.ensures.past ∙ ap (λ (s : Seated g.row.D.Denot). s.past) c.take_apart-desk.ensures.service in
    let pairs : Worker (Seated g.row.D.Denot) g.row.A.Denot g.row.C.Denot g.row.G.Denot → List Pair = λ w. w.service.found in
    let same_pairs : pairs_of c.leave-seat.result.1 ≡ pairs w = c.leave-seat.ensures.found ∙ ap (λ (s : Seated g.row.D.Denot). s.found) c.take_apart-desk.ensures.service in
    let fewer = ap length popped ∙ length_push c.pop.new.self.items w in
    let more_seats = ap length seated ∙ length_push c.loop-worker.seats.items c.leave-seat.result.0 in
    let more_views = ap length viewed ∙ length_push c.loop-worker.viewers.items c.leave-seat.result.1 in
    let more_ended = ap length ended ∙ length_push c.loop-worker.ended.items c.take_apart-desk.result.1 in (
      done ++ w ∷ [],
      record {
        parts = one_more_done c.args.workers.items done c.loop-worker.sitting.items c.pop.new.self.items w popped i.parts;
        left = subst (λ (l : List (Ended g.row.A.Denot g.row.C.Denot g.row.G.Denot)). AllZip HasLeft (done ++ w ∷ []) l) (sym ended)
            (all_zipped_more HasLeft done c.loop-worker.ended.items w c.take_apart-desk.result.1 i.left c.take_apart-desk.ensures.left);
        seats = ap (map past) seated ∙ (map-append past c.loop-worker.seats.items (c.leave-seat.result.0 ∷ []) ∙ (ap (λ (l : List (Known g.row.D.Denot)). l ++ past c.leave-seat.result.0 ∷ []) i.seats
            ∙ (ap (λ (p : Known g.row.D.Denot). map known done ++ p ∷ []) seat ∙ sym (map-append known done (w ∷ [])))));
        found = ap (map pairs_of) viewed ∙ (map-append pairs_of c.loop-worker.viewers.items (c.leave-seat.result.1 ∷ []) ∙ (ap (λ (l : List (List Pair)). l ++ pairs_of c.leave-seat.result.1 ∷ []) i.found
            ∙ (ap (λ (p : List Pair). map pairs done ++ p ∷ []) same_pairs ∙ sym (map-append pairs done (w ∷ [])))));
        views = λ first all.
            let N : Worker (Seated g.row.D.Denot) g.row.A.Denot g.row.C.Denot g.row.G.Denot → Type 0 = λ v. v.service.past.origin ≡ first ∷ [] in
            let both = All-pop N (done ++ w ∷ []) done (Some w) refl all in
            let began : c.take_apart-desk.result.0.past.origin ≡ first ∷ [] = ap (λ (s : Seated g.row.D.Denot). s.past.origin) c.take_apart-desk.ensures.service ∙ both.1 in
            subst (λ (l : List (Option Viewer)). All (IsViewerAt first) l) (sym viewed) (All-push (IsViewerAt first) c.loop-worker.viewers.items c.leave-seat.result.1 (i.views first both.0) (c.leave-seat.ensures.viewer.at first began));
        own = λ name all.
            let N : Worker (Seated g.row.D.Denot) g.row.A.Denot g.row.C.Denot g.row.G.Denot → Type 0 = λ v. v.service.name ≡ name in
            let both = All-pop N (done ++ w ∷ []) done (Some w) refl all in
            let named : c.take_apart-desk.result.0.name ≡ name = ap (λ (s : Seated g.row.D.Denot). s.name) c.take_apart-desk.ensures.service ∙ both.1 in
            subst (λ l. All (IsFreeAt name) l) (sym seated) (All-push (IsFreeAt name) c.loop-worker.seats.items c.leave-seat.result.0 (i.own name both.0) (c.leave-seat.ensures.own ∙ named, c.leave-seat.ensures.free));
        ended = (All-pop P c.loop-worker.sitting.items c.pop.new.self.items (Some w) popped i.ended).0;
        seats_many = omega arith;
        ended_many = omega arith;
        views_many = omega arith;
        views_room = omega arith;
        seats_room = omega arith;
        ended_room = omega arith;
      },
    )

pub returns-clause-own : goal.returns-clause-own
returns-clause-own g c = λ name all.
    let i = c.loop-worker.invariant.1 in
    let done = c.loop-worker.invariant.0 in
    let none : c.loop-worker.sitting.items ≡ [] = search rules in
    let whole : c.args.workers.items ≡ done = i.parts ∙ (ap (λ (l : List (Worker (Seated g.row.D.Denot) g.row.A.Denot g.row.C.Denot g.row.G.Denot)). done ++ reverse l) none ∙ append-nil done) in
    i.own name (subst (λ (l : List (Worker (Seated g.row.D.Denot) g.row.A.Denot g.row.C.Denot g.row.G.Denot)). All (λ (v : Worker (Seated g.row.D.Denot) g.row.A.Denot g.row.C.Denot g.row.G.Denot). v.service.name ≡ name) l) whole all)

pub returns-clause-views : goal.returns-clause-views
returns-clause-views g c = λ first all.
    let i = c.loop-worker.invariant.1 in
    let done = c.loop-worker.invariant.0 in
    let none : c.loop-worker.sitting.items ≡ [] = search rules in
    let whole : c.args.workers.items ≡ done = i.parts ∙ (ap (λ (l : List (Worker (Seated g.row.D.Denot) g.row.A.Denot g.row.C.Denot g.row.G.Denot)). done ++ reverse l) none ∙ append-nil done) in
    i.views first (subst (λ (l : List (Worker (Seated g.row.D.Denot) g.row.A.Denot g.row.C.Denot g.row.G.Denot)). All (λ (v : Worker (Seated g.row.D.Denot) g.row.A.Denot g.row.C.Denot g.row.G.Denot). v.service.past.origin ≡ first ∷ []) l) whole all)
