use Rattle.std.proofs.Common.{sym}
use Rattle.http_session.proofs.Bodies.{fill_whole, fill_rest}
use Rattle.http_session.proofs.body.fill_body.Goals as goal

pub returns-then-held-body-clause-full : goal.returns-then-held-body-clause-full
returns-then-held-body-clause-full g c = fill_whole c.args.buffer.now c.bytes.result.now c.skip.new.self c.copy_front-held.new.into _ c.copy_front-held.result c.bytes.ensures.value c.skip.ensures c.if-held-body.true c.copy_front-held.ensures.front

pub returns-clause-full : goal.returns-clause-full
returns-clause-full g c = fill_rest c.read_rest.result c.args.buffer.now c.bytes.result.now c.skip.new.self c.copy_front-held.new.into _ (g.S.Source.source c.args.source.now) (g.S.Source.source c.read_rest.new.source) c.copy_front-held.result _ c.bytes.ensures.value c.skip.ensures c.copy_front-held.ensures.front c.copy_front-held.ensures.count (sym c.copy_front-held.ensures.len) c.if-held-body.false c.read_rest.ensures.len c.read_rest.ensures.rest
