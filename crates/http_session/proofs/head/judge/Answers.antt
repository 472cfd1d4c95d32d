use Rattle.http_session.proofs.Bad.{fine_of_bytes, can_go_on}
use Rattle.std.proofs.Common.{subst}
use Rattle.http_session.specs.Heads.{SplitsTarget}
use Rattle.http_session.proofs.head.judge.Goals as goal

pub returns-in-None-clause-judged : goal.returns-in-None-clause-judged
returns-in-None-clause-judged c =
    let out = subst (SplitsTarget c.args.bytes.now) c.in-None.is c.requires.split in
    (c.in-More.ensures.step.0, fine_of_bytes c.args.bytes.now (can_go_on c.args.bytes.now out c.in-More.ensures.step.1))
