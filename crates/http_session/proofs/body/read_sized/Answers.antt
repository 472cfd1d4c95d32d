use Rattle.std.proofs.Common.{arith}
use Rattle.http_session.proofs.Bodies.{sized_fault}
use Rattle.http_session.proofs.body.read_sized.Goals as goal

pub returns-in-Fault-clause-read : goal.returns-in-Fault-clause-read
returns-in-Fault-clause-read g c = sized_fault c.args.size c.fill_body.new.body _ _ _ (omega (arith, c.in-Fault.ensures.len, c.deref_mut.ensures.len, c.in-Ok.ensures.len)) c.in-Fault.ensures.full
