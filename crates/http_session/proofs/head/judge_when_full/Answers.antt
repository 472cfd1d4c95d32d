use Rattle.http_session.proofs.HeadReads.{full_undecided, full_bad}
use Rattle.http_session.proofs.head.judge_when_full.Goals as goal

pub returns-in-Bad-clause-read : goal.returns-in-Bad-clause-read
returns-in-Bad-clause-read c = λ more. full_bad c.args.bytes.now more c.requires.within c.in-Bad.ensures.judged

pub returns-in-More-clause-read : goal.returns-in-More-clause-read
returns-in-More-clause-read c = λ more. full_undecided c.args.bytes.now more c.requires.within c.in-More.ensures.judged
