-- What the last entry leaves is published, and the turn is passed on.
use Rattle.std.proofs.Common.{length, sym, ap, ◌∙◌, subst, arith}
use Rattle.shared_store.proofs.Taken.{left_shown, opening_same}
use Rattle.shared_store.proofs.taking.publish_and_pass.Goals as goal
use Rattle.shared_store.specs.declared.counter.Counter.{Counter}
use Rattle.shared_store.specs.Counters.{IsSettled, Owes, shown_in}
use Rattle.shared_store.specs.Knowing.{Known}
use Rattle.shared_store.specs.Openings.{tally_of}
use Rattle.shared_store.specs.Published.{AreOf, pairs_of}
use Rattle.turnstile_core.proofs.Callers.{holds_still, has_opening}
use Rattle.turnstile_core.specs.Seats.{past}
use Rattle.turnstile_core.specs.declared.seat.Turn.{Turn}
use Rattle.wfs_store.specs.Held.{Held}

pub enter-requires-clause-holds : goal.enter-requires-clause-holds
enter-requires-clause-holds g c = (c.requires.holds.0, c.requires.holds.1)

pub publish-requires : goal.publish-requires
publish-requires g c = subst (λ (t : Turn (Counter g.row.D.Denot)). Owes t.value) (sym c.enter.ensures.turn) c.requires.owes

pub meet-requires-clause-at : goal.meet-requires-clause-at
meet-requires-clause-at g c = λ v is.
    c.requires.viewer v is ∙ sym (c.publish.ensures.publisher ∙ ap (λ (t : Turn (Counter g.row.D.Denot)). t.value.publisher.seen.book) c.enter.ensures.turn)

pub show-requires-clause-holds : goal.show-requires-clause-holds
show-requires-clause-holds g c = (c.requires.holds.0, holds_still c.args.seat.now c.enter.new.seat c.requires.holds.0 c.enter.ensures.holds c.requires.holds.1)

pub show-requires-clause-above : goal.show-requires-clause-above
show-requires-clause-above g c =
    let seat = ap (λ (p : Known g.row.D.Denot). p.shown) c.enter.ensures.seat in
    let same = ap (λ (t : Turn (Counter g.row.D.Denot)). shown_in t.value) c.enter.ensures.turn in
    let before = c.requires.shown in
    let above = c.publish.ensures.above in
    omega (arith, seat, same, before, above)

pub show-requires-clause-below : goal.show-requires-clause-below
show-requires-clause-below g c =
    let seen = ap (λ (p : Known g.row.D.Denot). length p.seen) c.enter.ensures.seat in
    let stores = ap (λ (h : Held g.row.D.Denot). length h.entries) c.publish.ensures.store ∙ ap (λ (t : Turn (Counter g.row.D.Denot)). length t.value.store.entries) c.enter.ensures.turn in
    let below = c.publish.ensures.below in
    omega (arith, seen, stores, below)

pub pass_on-requires-clause-holds : goal.pass_on-requires-clause-holds
pass_on-requires-clause-holds g c =
    let store = ap (λ (t : Turn (Counter g.row.D.Denot)). t.value.store) c.show.ensures.turn
    ∙ (c.publish.ensures.store ∙ ap (λ (t : Turn (Counter g.row.D.Denot)). t.value.store) c.enter.ensures.turn) in
    let number = ap (λ (p : Known g.row.D.Denot). p.number) c.show.ensures.seat ∙ ap (λ (p : Known g.row.D.Denot). p.number) c.enter.ensures.seat in (
      c.requires.holds.0,
      holds_still c.args.seat.now c.show.new.seat c.requires.holds.0 (c.show.ensures.holds ∙ c.enter.ensures.holds) c.requires.holds.1,
      λ n other. ap (λ (h : Held g.row.D.Denot). tally_of h n) store ∙ c.requires.holds.2 n (λ same. other (same ∙ sym number)),
    )

pub pass_on-requires-clause-entries : goal.pass_on-requires-clause-entries
pass_on-requires-clause-entries g c =
    let store = ap (λ (t : Turn (Counter g.row.D.Denot)). t.value.store) c.show.ensures.turn
    ∙ (c.publish.ensures.store ∙ ap (λ (t : Turn (Counter g.row.D.Denot)). t.value.store) c.enter.ensures.turn) in
    let seen = ap (λ (p : Known g.row.D.Denot). p.seen) c.show.ensures.seat ∙ ap (λ (p : Known g.row.D.Denot). p.seen) c.enter.ensures.seat in
    ap (λ (h : Held g.row.D.Denot). h.entries) store ∙ sym seen

pub pass_on-requires-clause-shown : goal.pass_on-requires-clause-shown
pass_on-requires-clause-shown g c =
    ap (λ (t : Turn (Counter g.row.D.Denot)). shown_in t.value) c.show.ensures.turn ∙ sym (ap (λ (p : Known g.row.D.Denot). p.shown) c.show.ensures.seat)

pub pass_on-requires-clause-settled : goal.pass_on-requires-clause-settled
pass_on-requires-clause-settled g c = subst (λ (t : Turn (Counter g.row.D.Denot)). IsSettled t.value) (sym c.show.ensures.turn) c.publish.ensures.settled

pub pass_on-requires-clause-opening : goal.pass_on-requires-clause-opening
pass_on-requires-clause-opening g c =
    let x = c.args.turn.value in
    let z = c.show.new.turn.value in
    let store = ap (λ (t : Turn (Counter g.row.D.Denot)). t.value.store) c.show.ensures.turn
    ∙ (c.publish.ensures.store ∙ ap (λ (t : Turn (Counter g.row.D.Denot)). t.value.store) c.enter.ensures.turn) in
    let book = ap (λ (t : Turn (Counter g.row.D.Denot)). t.value.publisher.seen.book) c.show.ensures.turn
    ∙ (c.publish.ensures.publisher ∙ ap (λ (t : Turn (Counter g.row.D.Denot)). t.value.publisher.seen.book) c.enter.ensures.turn) in
    let origin = ap (λ (p : Known g.row.D.Denot). p.origin) c.show.ensures.seat ∙ ap (λ (p : Known g.row.D.Denot). p.origin) c.enter.ensures.seat in
    has_opening c.show.new.seat (past c.args.seat.now) x z origin (opening_same g.D.Disk.faults x z store book) c.requires.opening

pub returns-clause-seat : goal.returns-clause-seat
returns-clause-seat g c =
    let store = ap (λ (t : Turn (Counter g.row.D.Denot)). t.value.store) c.show.ensures.turn
    ∙ (c.publish.ensures.store ∙ ap (λ (t : Turn (Counter g.row.D.Denot)). t.value.store) c.enter.ensures.turn) in
    left_shown (past c.args.seat.now) (past c.enter.new.seat) (past c.show.new.seat) (past c.pass_on.new.seat) c.args.turn.value.store c.show.new.turn.value.store (shown_in c.publish.new.self)
    c.enter.ensures.seat c.show.ensures.seat store c.pass_on.ensures.seat

pub returns-clause-at : goal.returns-clause-at
returns-clause-at g c = λ v is.
    c.meet.ensures.own v is ∙ (c.publish.ensures.publisher ∙ ap (λ (t : Turn (Counter g.row.D.Denot)). t.value.publisher.seen.book) c.enter.ensures.turn)

pub returns-clause-known : goal.returns-clause-known
returns-clause-known g c = subst (λ (h : Held g.row.D.Denot). AreOf h (pairs_of c.meet.new.viewer))
    (c.publish.ensures.store ∙ ap (λ (t : Turn (Counter g.row.D.Denot)). t.value.store) c.enter.ensures.turn) c.meet.ensures.known
