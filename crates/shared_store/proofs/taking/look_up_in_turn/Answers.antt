-- A read in a seat's turn.
use Rattle.std.proofs.Common.{refl}
use Rattle.shared_store.proofs.Taken.{found_by, published_by, schema_found, fits_there, viewer_at, viewer_still, passed_alone, answers_read, answers_none, knows_read}
use Rattle.shared_store.proofs.taking.look_up_in_turn.Goals as goal
use Rattle.shared_store.specs.Counters.{shown_in}
use Rattle.shared_store.specs.Published.{pairs_of}
use Rattle.turnstile_core.specs.Seats.{past}

pub meet-requires-clause-at : goal.meet-requires-clause-at
meet-requires-clause-at g c =
    let p = past c.args.seat.now in
    let x = c.take_turn-turn.result.value in
    let found = found_by g.D.Disk.faults p x c.take_turn-turn.ensures.value in
    viewer_at c.args._schema.now p c.args.viewer.now x c.requires.opening c.requires.viewer (published_by g.D.Disk.faults p x c.take_turn-turn.ensures.value)

pub read-read-requires-clause-fitting : goal.read-read-requires-clause-fitting
read-read-requires-clause-fitting g c =
    let p = past c.args.seat.now in
    let x = c.take_turn-turn.result.value in
    let found = found_by g.D.Disk.faults p x c.take_turn-turn.ensures.value in
    let same = schema_found g.D.Disk.faults c.args._schema.now p x.store c.requires.opening found in
    fits_there c.args._schema.now x.store.schema c.args.request.now c.args.request.now same refl c.requires.fitting

pub returns-in-Ok-clause-viewer : goal.returns-in-Ok-clause-viewer
returns-in-Ok-clause-viewer g c =
    let p = past c.args.seat.now in
    let x = c.take_turn-turn.result.value in
    let found = found_by g.D.Disk.faults p x c.take_turn-turn.ensures.value in
    let at = passed_alone p (past c.take_turn-turn.new.seat) (past c.pass_on.new.seat) x.store x.store (shown_in x) c.take_turn-turn.ensures.seat c.pass_on.ensures.seat in
    let more = knows_read g.D.Disk.faults c.args._schema.now p x.store c.requires.opening found (shown_in x) (past c.pass_on.new.seat) at in
    viewer_still c.args._schema.now p (past c.pass_on.new.seat) c.args.viewer.now c.meet.new.viewer x c.requires.viewer more
    (published_by g.D.Disk.faults p x c.take_turn-turn.ensures.value) c.meet.ensures.own c.meet.ensures.schema

pub returns-in-Ok-clause-answers : goal.returns-in-Ok-clause-answers
returns-in-Ok-clause-answers g c =
    let p = past c.args.seat.now in
    let x = c.take_turn-turn.result.value in
    let found = found_by g.D.Disk.faults p x c.take_turn-turn.ensures.value in
    let at = passed_alone p (past c.take_turn-turn.new.seat) (past c.pass_on.new.seat) x.store x.store (shown_in x) c.take_turn-turn.ensures.seat c.pass_on.ensures.seat in
    answers_read g.D.Disk.faults c.args._schema.now p x.store c.requires.opening found (shown_in x) (past c.pass_on.new.seat) at c.args._message.now c.args.moment c.args.request.now c.requires.asked c.requires.read (pairs_of c.meet.new.viewer) c.meet.ensures.known c.in-Ok.reply _ c.in-Ok.ensures refl

pub returns-in-Ok-clause-knows : goal.returns-in-Ok-clause-knows
returns-in-Ok-clause-knows g c =
    let p = past c.args.seat.now in
    let x = c.take_turn-turn.result.value in
    let found = found_by g.D.Disk.faults p x c.take_turn-turn.ensures.value in
    let at = passed_alone p (past c.take_turn-turn.new.seat) (past c.pass_on.new.seat) x.store x.store (shown_in x) c.take_turn-turn.ensures.seat c.pass_on.ensures.seat in
    knows_read g.D.Disk.faults c.args._schema.now p x.store c.requires.opening found (shown_in x) (past c.pass_on.new.seat) at

pub returns-in-Err-clause-viewer : goal.returns-in-Err-clause-viewer
returns-in-Err-clause-viewer g c =
    let p = past c.args.seat.now in
    let x = c.take_turn-turn.result.value in
    let found = found_by g.D.Disk.faults p x c.take_turn-turn.ensures.value in
    let at = passed_alone p (past c.take_turn-turn.new.seat) (past c.pass_on.new.seat) x.store x.store (shown_in x) c.take_turn-turn.ensures.seat c.pass_on.ensures.seat in
    let more = knows_read g.D.Disk.faults c.args._schema.now p x.store c.requires.opening found (shown_in x) (past c.pass_on.new.seat) at in
    viewer_still c.args._schema.now p (past c.pass_on.new.seat) c.args.viewer.now c.meet.new.viewer x c.requires.viewer more
    (published_by g.D.Disk.faults p x c.take_turn-turn.ensures.value) c.meet.ensures.own c.meet.ensures.schema

pub returns-in-Err-clause-answers : goal.returns-in-Err-clause-answers
returns-in-Err-clause-answers g c =
    let p = past c.args.seat.now in
    let x = c.take_turn-turn.result.value in
    let found = found_by g.D.Disk.faults p x c.take_turn-turn.ensures.value in
    let at = passed_alone p (past c.take_turn-turn.new.seat) (past c.pass_on.new.seat) x.store x.store (shown_in x) c.take_turn-turn.ensures.seat c.pass_on.ensures.seat in
    answers_none g.D.Disk.faults c.args._schema.now p x.store c.requires.opening found (shown_in x) (past c.pass_on.new.seat) at c.args._message.now c.args.moment c.args.request.now c.requires.asked c.requires.read (pairs_of c.meet.new.viewer) c.meet.ensures.known _ refl

pub returns-in-Err-clause-knows : goal.returns-in-Err-clause-knows
returns-in-Err-clause-knows g c =
    let p = past c.args.seat.now in
    let x = c.take_turn-turn.result.value in
    let found = found_by g.D.Disk.faults p x c.take_turn-turn.ensures.value in
    let at = passed_alone p (past c.take_turn-turn.new.seat) (past c.pass_on.new.seat) x.store x.store (shown_in x) c.take_turn-turn.ensures.seat c.pass_on.ensures.seat in
    knows_read g.D.Disk.faults c.args._schema.now p x.store c.requires.opening found (shown_in x) (past c.pass_on.new.seat) at
