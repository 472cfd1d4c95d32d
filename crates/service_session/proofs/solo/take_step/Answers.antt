use Rattle.std.proofs.Common.{refl}
use Rattle.http_requests.specs.Verdicts.{entry_of}
use Rattle.service_session.specs.Solo.{own_seat, stepped, none, more}
use Rattle.service_session.proofs.solo.take_step.Goals as goal

pub returns-clause-answered : goal.returns-clause-answered
returns-clause-answered g c =
    let is = rw c.entry_of.ensures at c.step.ensures in
    rw c.answer_of.ensures (stepped c.args.request c.requires.asked c.requires.change c.step.result c.step.new.self is)

pub returns-clause-steps : goal.returns-clause-steps
returns-clause-steps g c =
    let is = rw c.entry_of.ensures at c.step.ensures in
    more c.args.store.now c.step.new.self none (entry_of own_seat c.args.request c.args.message.now c.args.moment) c.step.result c.requires.change
    (record { own = refl; fitting = c.requires.of_schema }) is
