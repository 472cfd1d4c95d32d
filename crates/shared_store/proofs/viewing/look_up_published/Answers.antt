-- A viewer, where there is one, reads.
use Rattle.std.proofs.Common.{IfSome, Option, sym, subst}
use Rattle.snapshot_reads.specs.declared.viewer.Viewer.{Viewer}
use Rattle.snapshot_reads.specs.Viewers.{entered_of}
use Rattle.shared_store.specs.Published.{pairs_of}
use Rattle.shared_store.specs.Seats.{AnswersBy}
use Rattle.shared_store.proofs.viewing.look_up_published.Goals as goal
use Rattle.turnstile_core.specs.Seats.{past}

pub returns-in-Some-clause-answers : goal.returns-in-Some-clause-answers
returns-in-Some-clause-answers g c =
    subst (λ (o : Option Viewer). IfSome c.read_published.result (λ answer. AnswersBy (past c.args.seat.now) (pairs_of o) c.args.message.now c.args.moment answer (past c.read_published.new.seat) (entered_of c.read_published.new.viewer)))
    (sym c.in-Some.is) c.read_published.ensures.answers
