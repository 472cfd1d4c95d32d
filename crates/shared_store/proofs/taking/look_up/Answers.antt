-- A read is answered from what is published, or in a turn.
use Rattle.std.proofs.Common.{List, sym, subst}
use Rattle.snapshot_reads.specs.declared.book.Pair.{Pair}
use Rattle.shared_store.specs.Published.{FindsOne, pairs_of}
use Rattle.shared_store.specs.Knowing.{knows_both}
use Rattle.shared_store.proofs.Taken.{answers_behind, found_more, knows_looks, opening_still}
use Rattle.shared_store.proofs.taking.look_up.Goals as goal
use Rattle.turnstile_core.specs.Seats.{past}

pub look_up_in_turn-requires-clause-opening : goal.look_up_in_turn-requires-clause-opening
look_up_in_turn-requires-clause-opening g c =
    opening_still c.args.schema.now (past c.args.seat.now) (past c.look_up_published.new.seat) c.requires.opening (knows_looks _ _ c.look_up_published.ensures.looked)

pub returns-in-Some-clause-knows : goal.returns-in-Some-clause-knows
returns-in-Some-clause-knows g c = knows_looks _ _ c.look_up_published.ensures.looked

pub returns-in-Some-clause-found : goal.returns-in-Some-clause-found
returns-in-Some-clause-found g c = found_more _ _ c.look_up_published.ensures.one

pub returns-in-None-clause-answers : goal.returns-in-None-clause-answers
returns-in-None-clause-answers g c =
    let one = subst (λ (l : List Pair). FindsOne (pairs_of c.args.viewer.now) l) (sym c.look_up_in_turn.ensures.found) c.look_up_published.ensures.one in
    answers_behind (past c.args.seat.now) (past c.look_up_published.new.seat) (pairs_of c.args.viewer.now) _ c.args.message.now c.args.moment _ (past c.look_up_in_turn.new.seat)
    c.look_up_published.ensures.looked one c.look_up_in_turn.ensures.answers

pub returns-in-None-clause-knows : goal.returns-in-None-clause-knows
returns-in-None-clause-knows g c = knows_both _ _ _ (knows_looks _ _ c.look_up_published.ensures.looked) c.look_up_in_turn.ensures.knows

pub returns-in-None-clause-found : goal.returns-in-None-clause-found
returns-in-None-clause-found g c = found_more _ _ (subst (λ (l : List Pair). FindsOne (pairs_of c.args.viewer.now) l) (sym c.look_up_in_turn.ensures.found) c.look_up_published.ensures.one)
