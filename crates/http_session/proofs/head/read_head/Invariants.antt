use Rattle.std.proofs.Common.{◌≡◌, ◌-◌, length}
use Rattle.http_session.specs.Reading.{Moved, IsCalm}
use Rattle.http_session.specs.Watching.{HasJudged}
use Rattle.http_session.proofs.head.read_head.Given as goal

abbrev pub invariant-loop-watch : goal.invariant-loop-watch
invariant-loop-watch g l = record {
  room : length l.headers ≡ 5500;
  moved : Moved l.fn.buffer (g.S.Source.source l.fn.source) l.buffer (g.S.Source.source l.source);
  calm : IsCalm (g.S.Source.source l.fn.source) (g.S.Source.source l.source);
  seen : HasJudged l.watch l.buffer;
}

abbrev pub decreases-loop-watch : goal.decreases-loop-watch
decreases-loop-watch g l = 16384 - length l.buffer
