use Rattle.service_session.proofs.round.answer.Goals as goal

pub returns : goal.returns
returns g c = record {
  moment = c.now-moment.result;
  now = c.now-moment.ensures.value;
  answer = c.judge-answered.result;
  judged = c.judge-answered.ensures.judged;
  becomes = record { leads = c.judge-answered.ensures.led; schema = c.judge-answered.ensures.schema };
  gives = rw (c.schema.ensures, c.judge-answered.ensures.schema, c.is_closing-closes.ensures) at c.give_answer.ensures;
  later = c.now-moment.ensures.moves;
}
