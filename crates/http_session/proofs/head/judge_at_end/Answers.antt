use Rattle.http_session.proofs.HeadReads.{bad_all}
use Rattle.std.proofs.Common.{arith}
use Rattle.http_session.proofs.head.judge_at_end.Goals as goal

pub returns-in-Bad-clause-read : goal.returns-in-Bad-clause-read
returns-in-Bad-clause-read c = bad_all c.args.bytes.now (omega (arith, c.requires.within)) c.in-Bad.ensures.judged
