-- A change in a seat's turn.
use Rattle.std.proofs.Common.{◌≡◌, ℕ, List, sym, ap, ◌∙◌, refl, subst, arith}
use Rattle.http_requests.specs.Verdicts.{entry_of}
use Rattle.service_session.specs.declared.answered.Answered.TheVariants as answered
use Rattle.snapshot_reads.specs.declared.book.Pair.{Pair}
use Rattle.snapshot_reads.specs.declared.publisher.Publisher.{Publisher}
use Rattle.shared_store.proofs.Counting.{shown_grows, shown_stays}
use Rattle.shared_store.proofs.Taken.{found_by, published_by, schema_found, fits_there, texts_there, viewer_at, viewer_still, one_more, number_found, passed_entered, passed_alone, answers_entered, answers_faulted, knows_stepped, knows_faulted, opening_kept}
use Rattle.shared_store.proofs.taking.take_step.Goals as goal
use Rattle.shared_store.specs.Counters.{shown_in}
use Rattle.shared_store.specs.Knowing.{Known}
use Rattle.shared_store.specs.Published.{pairs_of}
use Rattle.shared_store.specs.Seats.{AnswersBy}
use Rattle.turnstile_core.proofs.Callers.{has_opening}
use Rattle.turnstile_core.specs.Seats.{past}
use Rattle.wfs_model.specs.declared.entry.Entry.{Entry}
use Rattle.wfs_store.specs.Stepped.{taken_up}

pub step_in_turn-requires-clause-fitting : goal.step_in_turn-requires-clause-fitting
step_in_turn-requires-clause-fitting g c =
    let x = c.take_turn-turn.result.value in
    let found = found_by g.D.Disk.faults (past c.args.seat.now) x c.take_turn-turn.ensures.value in
    let same = schema_found g.D.Disk.faults c.args._schema.now (past c.args.seat.now) x.store c.requires.opening found in
    fits_there c.args._schema.now x.store.schema c.args.request c.entry_of.result.request same (ap (λ (e : Entry). e.request) c.entry_of.ensures) c.requires.fitting

pub step_in_turn-requires-clause-texts : goal.step_in_turn-requires-clause-texts
step_in_turn-requires-clause-texts g c =
    let x = c.take_turn-turn.result.value in
    let found = found_by g.D.Disk.faults (past c.args.seat.now) x c.take_turn-turn.ensures.value in
    let same = schema_found g.D.Disk.faults c.args._schema.now (past c.args.seat.now) x.store c.requires.opening found in
    texts_there c.args._schema.now x.store.schema c.args.request c.entry_of.result.request same (ap (λ (e : Entry). e.request) c.entry_of.ensures) c.requires.texts

-- ---- an entry

pub publish_and_pass-requires-clause-holds : goal.publish_and_pass-requires-clause-holds
publish_and_pass-requires-clause-holds g c =
    let p : Known g.row.D.Denot = past c.args.seat.now in
    let x = c.take_turn-turn.result.value in
    let own : c.entry_of.result.seat ≡ p.number = ap (λ (e : Entry). e.seat) c.entry_of.ensures ∙ sym c.requires.number in
    let number = number_found p (past c.take_turn-turn.new.seat) x.store (shown_in x) c.take_turn-turn.ensures.seat in
    (x, c.take_turn-turn.ensures.holds, λ n other. c.step_in_turn.ensures.turn.others n (λ same. other (same ∙ (own ∙ sym number))))

pub publish_and_pass-requires-clause-one_more : goal.publish_and_pass-requires-clause-one_more
publish_and_pass-requires-clause-one_more g c =
    let p : Known g.row.D.Denot = past c.args.seat.now in
    let x = c.take_turn-turn.result.value in
    let own : c.entry_of.result.seat ≡ p.number = ap (λ (e : Entry). e.seat) c.entry_of.ensures ∙ sym c.requires.number in
    one_more p (past c.take_turn-turn.new.seat) x.store (shown_in x) c.take_turn-turn.ensures.seat
    c.step_in_turn.new.counter.store (taken_up x.store c.entry_of.result) c.in-Ok.ensures.step.entered.0 own

pub publish_and_pass-requires-clause-shown : goal.publish_and_pass-requires-clause-shown
publish_and_pass-requires-clause-shown g c =
    let x = c.take_turn-turn.result.value in
    let seat : (past c.take_turn-turn.new.seat).shown ≡ shown_in x = ap (λ (p : Known g.row.D.Denot). p.shown) c.take_turn-turn.ensures.seat in
    let grows = shown_grows x c.step_in_turn.new.counter c.step_in_turn.ensures.publisher (taken_up x.store c.entry_of.result) c.in-Ok.ensures.step.entered.0 in
    omega (arith, seat, grows)

pub publish_and_pass-requires-clause-opening : goal.publish_and_pass-requires-clause-opening
publish_and_pass-requires-clause-opening g c =
    let x = c.take_turn-turn.result.value in
    let x' = c.step_in_turn.new.counter in
    let book : x'.publisher.seen.book ≡ x.publisher.seen.book = ap (λ (p : Publisher). p.seen.book) c.step_in_turn.ensures.publisher in
    has_opening c.take_turn-turn.new.seat (past c.args.seat.now) x x' (ap (λ (s : Known g.row.D.Denot). s.origin) c.take_turn-turn.ensures.seat)
    (opening_kept g.D.Disk.faults x x' c.entry_of.result.seat c.step_in_turn.ensures.turn book) c.take_turn-turn.ensures.value.opened

pub publish_and_pass-requires-clause-viewer : goal.publish_and_pass-requires-clause-viewer
publish_and_pass-requires-clause-viewer g c =
    let x = c.take_turn-turn.result.value in
    let x' = c.step_in_turn.new.counter in
    let book : x'.publisher.seen.book ≡ x.publisher.seen.book = ap (λ (p : Publisher). p.seen.book) c.step_in_turn.ensures.publisher in
    viewer_at c.args._schema.now (past c.args.seat.now) c.args.viewer.now x' c.requires.opening c.requires.viewer
    (λ first origin. book ∙ published_by g.D.Disk.faults (past c.args.seat.now) x c.take_turn-turn.ensures.value first origin)

pub returns-in-Ok-clause-viewer : goal.returns-in-Ok-clause-viewer
returns-in-Ok-clause-viewer g c =
    let p : Known g.row.D.Denot = past c.args.seat.now in
    let q : Known g.row.D.Denot = past c.publish_and_pass.new.seat in
    let x = c.take_turn-turn.result.value in
    let x' = c.step_in_turn.new.counter in
    let own : c.entry_of.result.seat ≡ p.number = ap (λ (e : Entry). e.seat) c.entry_of.ensures ∙ sym c.requires.number in
    let book : x'.publisher.seen.book ≡ x.publisher.seen.book = ap (λ (p : Publisher). p.seen.book) c.step_in_turn.ensures.publisher in
    let found = found_by g.D.Disk.faults p x c.take_turn-turn.ensures.value in
    let at = passed_entered p (past c.take_turn-turn.new.seat) q x.store x'.store (shown_in x) c.take_turn-turn.ensures.seat c.publish_and_pass.ensures.seat in
    let more = knows_stepped g.D.Disk.moment g.D.Disk.since g.D.Disk.faults c.args._schema.now p x.store x'.store c.requires.opening found c.entry_of.result own q.shown c.in-Ok.reply q
    c.in-Ok.ensures.step c.step_in_turn.ensures.turn at in
    viewer_still c.args._schema.now p q c.args.viewer.now c.publish_and_pass.new.viewer x' c.requires.viewer more
    (λ first origin. book ∙ published_by g.D.Disk.faults p x c.take_turn-turn.ensures.value first origin) c.publish_and_pass.ensures.at c.publish_and_pass.ensures.schema

pub returns-in-Ok-clause-answers : goal.returns-in-Ok-clause-answers
returns-in-Ok-clause-answers g c =
    let p : Known g.row.D.Denot = past c.args.seat.now in
    let q : Known g.row.D.Denot = past c.publish_and_pass.new.seat in
    let x = c.take_turn-turn.result.value in
    let x' = c.step_in_turn.new.counter in
    let own : c.entry_of.result.seat ≡ p.number = ap (λ (e : Entry). e.seat) c.entry_of.ensures ∙ sym c.requires.number in
    let found = found_by g.D.Disk.faults p x c.take_turn-turn.ensures.value in
    let at = passed_entered p (past c.take_turn-turn.new.seat) q x.store x'.store (shown_in x) c.take_turn-turn.ensures.seat c.publish_and_pass.ensures.seat in
    let is_entry : c.entry_of.result ≡ entry_of p.number c.args.request c.args.message.now c.args.moment =
    c.entry_of.ensures ∙ ap (λ (n : ℕ). entry_of n c.args.request c.args.message.now c.args.moment) (sym c.requires.number) in
    let pairs = pairs_of c.publish_and_pass.new.viewer in
    subst (λ (l : List Pair). AnswersBy p l c.args.message.now c.args.moment (answered.Reply c.in-Ok.reply) q pairs) c.publish_and_pass.ensures.found
    (answers_entered g.D.Disk.moment g.D.Disk.since g.D.Disk.faults c.args._schema.now p x.store x'.store c.requires.opening found c.entry_of.result own q.shown
    c.args.message.now c.args.moment c.args.request is_entry c.requires.asked c.requires.change pairs c.publish_and_pass.ensures.known c.in-Ok.reply (answered.Reply c.in-Ok.reply) q c.in-Ok.ensures.step refl at)

pub returns-in-Ok-clause-knows : goal.returns-in-Ok-clause-knows
returns-in-Ok-clause-knows g c =
    let p : Known g.row.D.Denot = past c.args.seat.now in
    let q : Known g.row.D.Denot = past c.publish_and_pass.new.seat in
    let x = c.take_turn-turn.result.value in
    let x' = c.step_in_turn.new.counter in
    let own : c.entry_of.result.seat ≡ p.number = ap (λ (e : Entry). e.seat) c.entry_of.ensures ∙ sym c.requires.number in
    let found = found_by g.D.Disk.faults p x c.take_turn-turn.ensures.value in
    let at = passed_entered p (past c.take_turn-turn.new.seat) q x.store x'.store (shown_in x) c.take_turn-turn.ensures.seat c.publish_and_pass.ensures.seat in
    knows_stepped g.D.Disk.moment g.D.Disk.since g.D.Disk.faults c.args._schema.now p x.store x'.store c.requires.opening found c.entry_of.result own q.shown c.in-Ok.reply q
    c.in-Ok.ensures.step c.step_in_turn.ensures.turn at

-- ---- a step that came to nothing

pub meet-requires-clause-at : goal.meet-requires-clause-at
meet-requires-clause-at g c =
    let x = c.take_turn-turn.result.value in
    let x' = c.step_in_turn.new.counter in
    let book : x'.publisher.seen.book ≡ x.publisher.seen.book = ap (λ (p : Publisher). p.seen.book) c.step_in_turn.ensures.publisher in
    viewer_at c.args._schema.now (past c.args.seat.now) c.args.viewer.now x' c.requires.opening c.requires.viewer
    (λ first origin. book ∙ published_by g.D.Disk.faults (past c.args.seat.now) x c.take_turn-turn.ensures.value first origin)

pub pass_on-requires-clause-holds : goal.pass_on-requires-clause-holds
pass_on-requires-clause-holds g c =
    let p : Known g.row.D.Denot = past c.args.seat.now in
    let x = c.take_turn-turn.result.value in
    let own : c.entry_of.result.seat ≡ p.number = ap (λ (e : Entry). e.seat) c.entry_of.ensures ∙ sym c.requires.number in
    let number = number_found p (past c.take_turn-turn.new.seat) x.store (shown_in x) c.take_turn-turn.ensures.seat in
    (x, c.take_turn-turn.ensures.holds, λ n other. c.step_in_turn.ensures.turn.others n (λ same. other (same ∙ (own ∙ sym number))))

pub pass_on-requires-clause-shown : goal.pass_on-requires-clause-shown
pass_on-requires-clause-shown g c =
    let x = c.take_turn-turn.result.value in
    shown_stays x c.step_in_turn.new.counter c.step_in_turn.ensures.publisher c.in-Err.ensures.step.entered ∙ sym (ap (λ (p : Known g.row.D.Denot). p.shown) c.take_turn-turn.ensures.seat)

pub pass_on-requires-clause-opening : goal.pass_on-requires-clause-opening
pass_on-requires-clause-opening g c =
    let x = c.take_turn-turn.result.value in
    let x' = c.step_in_turn.new.counter in
    let book : x'.publisher.seen.book ≡ x.publisher.seen.book = ap (λ (p : Publisher). p.seen.book) c.step_in_turn.ensures.publisher in
    has_opening c.take_turn-turn.new.seat (past c.args.seat.now) x x' (ap (λ (s : Known g.row.D.Denot). s.origin) c.take_turn-turn.ensures.seat)
    (opening_kept g.D.Disk.faults x x' c.entry_of.result.seat c.step_in_turn.ensures.turn book) c.take_turn-turn.ensures.value.opened

pub returns-in-Err-clause-viewer : goal.returns-in-Err-clause-viewer
returns-in-Err-clause-viewer g c =
    let p : Known g.row.D.Denot = past c.args.seat.now in
    let q : Known g.row.D.Denot = past c.pass_on.new.seat in
    let x = c.take_turn-turn.result.value in
    let x' = c.step_in_turn.new.counter in
    let own : c.entry_of.result.seat ≡ p.number = ap (λ (e : Entry). e.seat) c.entry_of.ensures ∙ sym c.requires.number in
    let book : x'.publisher.seen.book ≡ x.publisher.seen.book = ap (λ (p : Publisher). p.seen.book) c.step_in_turn.ensures.publisher in
    let found = found_by g.D.Disk.faults p x c.take_turn-turn.ensures.value in
    let at = passed_alone p (past c.take_turn-turn.new.seat) q x.store x'.store (shown_in x) c.take_turn-turn.ensures.seat c.pass_on.ensures.seat in
    let more = knows_faulted g.D.Disk.moment g.D.Disk.since g.D.Disk.faults c.args._schema.now p x.store x'.store c.requires.opening found c.entry_of.result own (shown_in x) c.in-Err.fault q
    c.in-Err.ensures.step at in
    viewer_still c.args._schema.now p q c.args.viewer.now c.meet.new.viewer x' c.requires.viewer more
    (λ first origin. book ∙ published_by g.D.Disk.faults p x c.take_turn-turn.ensures.value first origin) c.meet.ensures.own c.meet.ensures.schema

pub returns-in-Err-clause-answers : goal.returns-in-Err-clause-answers
returns-in-Err-clause-answers g c =
    let p : Known g.row.D.Denot = past c.args.seat.now in
    let q : Known g.row.D.Denot = past c.pass_on.new.seat in
    let x = c.take_turn-turn.result.value in
    let x' = c.step_in_turn.new.counter in
    let own : c.entry_of.result.seat ≡ p.number = ap (λ (e : Entry). e.seat) c.entry_of.ensures ∙ sym c.requires.number in
    let found = found_by g.D.Disk.faults p x c.take_turn-turn.ensures.value in
    let at = passed_alone p (past c.take_turn-turn.new.seat) q x.store x'.store (shown_in x) c.take_turn-turn.ensures.seat c.pass_on.ensures.seat in
    let is_entry : c.entry_of.result ≡ entry_of p.number c.args.request c.args.message.now c.args.moment =
    c.entry_of.ensures ∙ ap (λ (n : ℕ). entry_of n c.args.request c.args.message.now c.args.moment) (sym c.requires.number) in
    let pairs = pairs_of c.meet.new.viewer in
    subst (λ (l : List Pair). AnswersBy p l c.args.message.now c.args.moment c.answer_of.result q pairs) c.meet.ensures.found
    (answers_faulted g.D.Disk.moment g.D.Disk.since g.D.Disk.faults c.args._schema.now p x.store x'.store c.requires.opening found c.entry_of.result own (shown_in x)
    c.args.message.now c.args.moment c.args.request is_entry c.requires.asked c.requires.change pairs c.meet.ensures.known c.in-Err.fault c.answer_of.result q
    c.in-Err.ensures.step c.answer_of.ensures at)

pub returns-in-Err-clause-knows : goal.returns-in-Err-clause-knows
returns-in-Err-clause-knows g c =
    let p : Known g.row.D.Denot = past c.args.seat.now in
    let q : Known g.row.D.Denot = past c.pass_on.new.seat in
    let x = c.take_turn-turn.result.value in
    let x' = c.step_in_turn.new.counter in
    let own : c.entry_of.result.seat ≡ p.number = ap (λ (e : Entry). e.seat) c.entry_of.ensures ∙ sym c.requires.number in
    let found = found_by g.D.Disk.faults p x c.take_turn-turn.ensures.value in
    let at = passed_alone p (past c.take_turn-turn.new.seat) q x.store x'.store (shown_in x) c.take_turn-turn.ensures.seat c.pass_on.ensures.seat in
    knows_faulted g.D.Disk.moment g.D.Disk.since g.D.Disk.faults c.args._schema.now p x.store x'.store c.requires.opening found c.entry_of.result own (shown_in x) c.in-Err.fault q
    c.in-Err.ensures.step at
