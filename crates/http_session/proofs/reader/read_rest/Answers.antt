use Rattle.http_session.proofs.Readings.{ask_failed_at, rest_read_at}
use Rattle.http_session.proofs.reader.read_rest.Goals as goal

pub returns-then-fails_to_ask : goal.returns-then-fails_to_ask
returns-then-fails_to_ask g c = ask_failed_at c.args.start _ _ _ _ _ _ (g.met.L.Link.is_one c.args.link.now) (g.met.L.Link.is_one c.fails_to_ask.new.sink) c.if-fails_to_ask.ensures

pub returns : goal.returns
returns g c = rest_read_at c.args.start _ _ _ _ _ _ _ _ (g.met.L.Link.is_one c.args.link.now) (g.met.L.Link.is_one c.fails_to_ask.new.sink) c.if-fails_to_ask.ensures c.read_body.ensures.read c.read_body.ensures.keeps c.read_body.ensures.calm
