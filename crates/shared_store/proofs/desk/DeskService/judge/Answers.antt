-- A message at a desk.
use Rattle.std.proofs.Common.{refl, inl, ◌∙◌, rules}
use Rattle.shared_store.specs.Published.{pairs_of}
use Rattle.shared_store.proofs.Taken.{opening_still, refused_by, answers_by_bytes, answers_not}
use Rattle.shared_store.proofs.desk.DeskService.judge.Goals as goal
use Rattle.turnstile_core.specs.Seats.{past}

pub invariant_of-self : goal.invariant_of-self
invariant_of-self g c = (
  c.carry_out.ensures.own ∙ c.self.invariant.0,
  c.carry_out.ensures.free,
  c.carry_out.ensures.knows.number ∙ c.self.invariant.2,
  opening_still c.self.inside.schema.now (past c.self.inside.seat) (past c.carry_out.new.seat) c.self.invariant.3 c.carry_out.ensures.knows,
  c.carry_out.ensures.viewer,
)

pub returns-in-Ok-clause-judged : goal.returns-in-Ok-clause-judged
returns-in-Ok-clause-judged g c = rw (← c.self.view_is) c.carry_out.ensures.answers

pub returns-in-Err-Refused-clause-judged : goal.returns-in-Err-Refused-clause-judged
returns-in-Err-Refused-clause-judged g c =
    let asks = refused_by c.self.inside.schema.now c.args.message.now c.read_asked.result c.in-Err-Refused.field-0 c.in-Err-Refused.refusal c.read_asked.ensures.read c.in-Err-Refused.is c.in-Err-Refused.field-0-is in
    rw (← c.self.view_is) (answers_by_bytes c.self.inside.schema.now (past c.self.inside.seat) (pairs_of c.self.inside.viewer) c.args.message.now c.args.moment c.in-Err-Refused.refusal _ c.self.invariant.3 asks (search rules))

pub returns-in-Err-OutOfMemory-clause-judged : goal.returns-in-Err-OutOfMemory-clause-judged
returns-in-Err-OutOfMemory-clause-judged g c =
    rw (← c.self.view_is) (answers_not (past c.self.inside.seat) (pairs_of c.self.inside.viewer) (pairs_of c.self.inside.viewer) c.args.message.now c.args.moment (inl refl))
