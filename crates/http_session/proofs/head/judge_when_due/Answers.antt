use Rattle.std.proofs.Common.{refl}
use Rattle.http_session.proofs.Watches.{seen_judged, none_yet, judged_all}
use Rattle.http_session.proofs.head.judge_when_due.Goals as goal

pub is_due-requires : goal.is_due-requires
is_due-requires c = record { seen = seen_judged _ _ c.requires.seen }

pub returns-else-is_due-clause-judged : goal.returns-else-is_due-clause-judged
returns-else-is_due-clause-judged c = none_yet _ _ c.requires.seen (c.if-is_due.ensures.none refl)

pub returns-else-is_due-clause-seen : goal.returns-else-is_due-clause-seen
returns-else-is_due-clause-seen c = λ e. judged_all _ _ c.is_due.ensures.seen (none_yet _ _ c.requires.seen (c.if-is_due.ensures.none refl))
