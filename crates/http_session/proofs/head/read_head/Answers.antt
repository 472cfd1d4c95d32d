use Rattle.std.proofs.Common.{refl}
use Rattle.http_session.proofs.HeadReads.{bad_read, full_read, end_read, moved_stay}
use Rattle.http_session.proofs.Watches.{judged_none}
use Rattle.http_session.proofs.head.read_head.Goals as goal

pub returns-in-Bad-clause-read : goal.returns-in-Bad-clause-read
returns-in-Bad-clause-read g c = bad_read _ _ _ c.bytes-in-loop-watch.ensures.value c.bytes-in-loop-watch.ensures.within c.in-Bad.ensures.judged

pub returns-in-End-clause-read : goal.returns-in-End-clause-read
returns-in-End-clause-read g c = end_read _ _ _ _ _ _ c.bytes-in-End.ensures.value c.in-End.ensures.filled.1 c.judge_at_end.ensures.read

pub returns-clause-read : goal.returns-clause-read
returns-clause-read g c = full_read _ _ _ _ _ _ c.bytes-2.ensures.value c.judge_when_full.ensures.read

pub loop-watch-init : goal.loop-watch-init
loop-watch-init g c = record {
  room = c.requires.room;
  moved = moved_stay _ _;
  calm = refl;
  seen = judged_none _ _ c.new-watch.ensures.seen c.new-watch.ensures.lines;
}
