-- A run: seats are given, workers do their work, and the store comes back.
use Rattle.std.proofs.Common.{rules, ◌≡◌, List, [], ◌∷◌, length, map, sym, ap, ◌∙◌, subst}
use Rattle.std.specs.Prelude.{All}
use Rattle.feature_schema.specs.Rules.{KeepsRules}
use Rattle.feature_values.specs.declared.schema.Schema.{Schema}
use Rattle.snapshot_reads.specs.Pairs.{pair}
use Rattle.store_server.specs.Seating.{AreInOrder}
use Rattle.store_server.specs.Serving.{RunFits}
use Rattle.store_server.proofs.Fitting.{no_tally, given_all, given_many, fresh_began, fresh_open, fresh_in_order, all_back, all_fit, publisher_back}
use Rattle.store_server.proofs.Views.{all_found, all_new, all_serve, viewers_at}
use Rattle.store_server.proofs.serving.serve.Goals as goal
use Rattle.shared_store.specs.declared.counter.Counter.{Counter}
use Rattle.shared_store.specs.Knowing.{Known}
use Rattle.shared_store.specs.Published.{pairs_of}
use Rattle.shared_store.specs.Seats.{IsOfOpening}
use Rattle.turnstile_core.specs.Seats.{name_of, past}
use Rattle.wfs_model.specs.State.{Durable}
use Rattle.wfs_store.specs.Held.{Held}

pub of-requires-clause-given : goal.of-requires-clause-given
of-requires-clause-given g c = c.in-Ok-new.ensures.given ∙ (ap (λ (s : Schema). pair 0 (record { schema = s; kept = c.features.result.now.kept }) ∷ []) c.features.ensures.schema
    ∙ ap (λ (k : Durable). pair 0 (record { schema = c.args.store.schema; kept = k }) ∷ []) c.features.ensures.kept)

pub of-requires-clause-shown : goal.of-requires-clause-shown
of-requires-clause-shown g c = c.in-Ok-new.ensures.shown ∙ (ap (λ (s : Schema). pair 0 (record { schema = s; kept = c.features.result.now.kept })) c.features.ensures.schema
    ∙ ap (λ (k : Durable). pair 0 (record { schema = c.args.store.schema; kept = k })) c.features.ensures.kept)

pub new-requires-2-clause-empty : goal.new-requires-2-clause-empty
new-requires-2-clause-empty g c = ap (λ (h : Held g.row.D.Denot). h.entries) c.of.ensures.store ∙ c.requires.fresh.0

pub new-requires-2-clause-zeros : goal.new-requires-2-clause-zeros
new-requires-2-clause-zeros g c = no_tally c.of.result.store.tally (ap (λ (h : Held g.row.D.Denot). h.tally) c.of.ensures.store ∙ c.requires.fresh.1)

pub work_all-requires-clause-opening : goal.work_all-requires-clause-opening
work_all-requires-clause-opening g c κs within =
    let first : Counter g.row.D.Denot = c.of.result in
    let many : c.len-many.result ≡ length c.args.slots.items = search rules in
    let all = given_all (map past c.give_seats.new.seats.items) (past c.in-Ok-new-2.first).origin first c.len-many.result (length c.args.slots.items) c.give_seats.ensures.fresh (ap (λ p. p.origin) c.in-Ok-new-2.ensures.seat) many in
    let schema : first.store.schema ≡ c.args.schema.now = ap (λ (h : Held g.row.D.Denot). h.schema) c.of.ensures.store ∙ c.requires.schema in
    let rules_kept : KeepsRules first.store.schema = subst (λ (h : Held g.row.D.Denot). KeepsRules h.schema) (sym c.of.ensures.store) c.schema-rules.ensures.rules in
    let tally = ap (λ (h : Held g.row.D.Denot). h.tally) c.of.ensures.store ∙ c.requires.fresh.1 in
    subst (λ (l : List (Known g.row.D.Denot)). All (IsOfOpening c.args.schema.now) l) (sym all) (fresh_open c.args.schema.now first (length c.args.slots.items) schema rules_kept tally c.requires.slots.1)

pub work_all-requires-clause-order : goal.work_all-requires-clause-order
work_all-requires-clause-order g c κs within =
    let first : Counter g.row.D.Denot = c.of.result in
    let many : c.len-many.result ≡ length c.args.slots.items = search rules in
    let all = given_all (map past c.give_seats.new.seats.items) (past c.in-Ok-new-2.first).origin first c.len-many.result (length c.args.slots.items) c.give_seats.ensures.fresh (ap (λ p. p.origin) c.in-Ok-new-2.ensures.seat) many in
    subst (λ (l : List (Known g.row.D.Denot)). AreInOrder l) (sym all) (fresh_in_order (first ∷ []) (length c.args.slots.items))

pub work_all-requires-clause-as_many : goal.work_all-requires-clause-as_many
work_all-requires-clause-as_many g c κs within =
    let many : c.len-many.result ≡ length c.args.slots.items = search rules in
    (sym many ∙ sym (given_many past c.give_seats.new.seats.items (past c.in-Ok-new-2.first).origin c.len-many.result c.give_seats.ensures.fresh), c.requires.slots.1)

pub work_all-requires-clause-views : goal.work_all-requires-clause-views
work_all-requires-clause-views g c κs within =
    let first : Counter g.row.D.Denot = c.of.result in
    let many : c.len-many.result ≡ length c.args.slots.items = search rules in
    let seats = map past c.give_seats.new.seats.items in
    let all = given_all seats (past c.in-Ok-new-2.first).origin first c.len-many.result (length c.args.slots.items) c.give_seats.ensures.fresh (ap (λ p. p.origin) c.in-Ok-new-2.ensures.seat) many in
    let began = subst (λ (l : List (Known g.row.D.Denot)). All (λ (p : Known g.row.D.Denot). p.origin ≡ first ∷ []) l) (sym all) (fresh_began first (length c.args.slots.items)) in
    let new = all_new c.args.schema.now first c.in-Ok-new.publisher c.features.result.now.schema c.in-Ok-new.viewers.items c.of.ensures.publisher (c.features.ensures.schema ∙ c.requires.schema) c.in-Ok-new.ensures.viewers in
    (c.in-Ok-new.ensures.count ∙ sym (given_many past c.give_seats.new.seats.items (past c.in-Ok-new-2.first).origin c.len-many.result c.give_seats.ensures.fresh), all_serve c.args.schema.now first seats c.in-Ok-new.viewers.items began new)

pub close-counter-requires-clause-all : goal.close-counter-requires-clause-all
close-counter-requires-clause-all g c =
    let first : Counter g.row.D.Denot = c.of.result in
    let many : c.len-many.result ≡ length c.args.slots.items = search rules in
    let all = given_all (map past c.give_seats.new.seats.items) (past c.in-Ok-new-2.first).origin first c.len-many.result (length c.args.slots.items) c.give_seats.ensures.fresh (ap (λ p. p.origin) c.in-Ok-new-2.ensures.seat) many in
    let schema : first.store.schema ≡ c.args.schema.now = ap (λ (h : Held g.row.D.Denot). h.schema) c.of.ensures.store ∙ c.requires.schema in
    all_back g.D.Disk.faults g.A.Acceptor.accepting g.C.Clock.moments c.args.limit (name_of c.in-Ok-new-2.turnstile) c.args.schema.now first c.args.slots.items c.work_all.new.ended.items
    (map past c.give_seats.new.seats.items) (map past c.work_all.new.seats.items) (map pairs_of c.work_all.new.viewers.items) schema all c.work_all.ensures.worked c.requires.slots.0

pub meet_them-requires-clause-settled : goal.meet_them-requires-clause-settled
meet_them-requires-clause-settled g c = c.close-counter.ensures.settled

pub meet_them-requires-clause-at : goal.meet_them-requires-clause-at
meet_them-requires-clause-at g c =
    let first : Counter g.row.D.Denot = c.of.result in
    let many : c.len-many.result ≡ length c.args.slots.items = search rules in
    let seats = map past c.give_seats.new.seats.items in
    let all = given_all seats (past c.in-Ok-new-2.first).origin first c.len-many.result (length c.args.slots.items) c.give_seats.ensures.fresh (ap (λ p. p.origin) c.in-Ok-new-2.ensures.seat) many in
    let began = subst (λ (l : List (Known g.row.D.Denot)). All (λ (p : Known g.row.D.Denot). p.origin ≡ first ∷ []) l) (sym all) (fresh_began first (length c.args.slots.items)) in
    let schema : first.store.schema ≡ c.args.schema.now = ap (λ (h : Held g.row.D.Denot). h.schema) c.of.ensures.store ∙ c.requires.schema in
    let back = publisher_back g.D.Disk.faults g.A.Acceptor.accepting g.C.Clock.moments c.args.limit (name_of c.in-Ok-new-2.turnstile) c.args.schema.now first c.args.slots.items c.work_all.new.ended.items
    seats (map past c.work_all.new.seats.items) (map pairs_of c.work_all.new.viewers.items) schema all c.work_all.ensures.worked c.close-counter.result c.requires.slots.0 c.close-counter.ensures in
    viewers_at first c.close-counter.result c.work_all.new.viewers.items back (c.work_all.ensures.views first began)

pub returns-in-Ok-new-2-clause-ran : goal.returns-in-Ok-new-2-clause-ran
returns-in-Ok-new-2-clause-ran g c =
    let first : Counter g.row.D.Denot = c.of.result in
    let last : Counter g.row.D.Denot = c.close-counter.result in
    let many : c.len-many.result ≡ length c.args.slots.items = search rules in
    let all = given_all (map past c.give_seats.new.seats.items) (past c.in-Ok-new-2.first).origin first c.len-many.result (length c.args.slots.items) c.give_seats.ensures.fresh (ap (λ p. p.origin) c.in-Ok-new-2.ensures.seat) many in
    let schema : first.store.schema ≡ c.args.schema.now = ap (λ (h : Held g.row.D.Denot). h.schema) c.of.ensures.store ∙ c.requires.schema in
    let none = ap (λ (h : Held g.row.D.Denot). h.entries) c.of.ensures.store ∙ c.requires.fresh.0 in
    subst (λ (h : Held g.row.D.Denot). RunFits g.A.Acceptor.accepting g.C.Clock.moments c.args.limit g.D.Disk.faults h c.args.slots.items last.store c.work_all.new.ended.items) c.of.ensures.store
    (all_fit g.D.Disk.faults g.A.Acceptor.accepting g.C.Clock.moments c.args.limit (name_of c.in-Ok-new-2.turnstile) c.args.schema.now first c.args.slots.items c.work_all.new.ended.items
    (map past c.give_seats.new.seats.items) (map past c.work_all.new.seats.items) (map pairs_of c.work_all.new.viewers.items) schema all c.work_all.ensures.worked last none c.requires.slots.0 c.close-counter.ensures
    (all_found last.store c.work_all.new.viewers.items c.meet_them.ensures))
