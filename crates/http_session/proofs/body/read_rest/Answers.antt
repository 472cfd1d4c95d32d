use Rattle.std.proofs.Common.{◌∙◌, ap, arith, Ok}
use Rattle.http_session.proofs.Bodies.{rest_more, rest_ended, rest_fault, keeps_on}
use Rattle.http_session.proofs.body.read_rest.Goals as goal

pub returns-in-Ok-eq0-clause-rest : goal.returns-in-Ok-eq0-clause-rest
returns-in-Ok-eq0-clause-rest g c =
    rest_ended c.args.start c.loop-filled.filled _ _ c.args.body.now c.loop-filled.body c.loop-filled.invariant.4 (c.take_behind.ensures.ends (c.in-Ok-eq0.is ∙ ap Ok c.in-Ok-eq0.field-0-test)) c.requires c.loop-filled-test.true c.loop-filled.invariant.1

pub loop-filled-preserved : goal.loop-filled-preserved
loop-filled-preserved g c = (
  c.in-Ok.ensures.within,
  c.take_behind.ensures.len ∙ c.loop-filled.invariant.1,
  omega (arith, c.loop-filled.invariant.2),
  keeps_on _ _ _ c.loop-filled.invariant.3 c.take_behind.ensures.keeps,
  rest_more _ _ _ c.loop-filled.filled c.in-Ok.count c.loop-filled.body c.take_behind.new.bytes c.loop-filled.invariant.4 c.take_behind.ensures.front c.in-Ok.ensures.moved c.in-Ok.ensures.bytes,
  c.in-Ok.ensures.calm ∙ c.loop-filled.invariant.5,
)

pub returns-in-Err-clause-rest : goal.returns-in-Err-clause-rest
returns-in-Err-clause-rest g c = rest_fault c.args.start c.loop-filled.filled _ _ _ c.args.body.now c.loop-filled.body c.loop-filled.invariant.4 c.in-Err.ensures.err c.loop-filled.invariant.3 c.in-Err.ensures.cause c.loop-filled-test.true c.loop-filled.invariant.1
