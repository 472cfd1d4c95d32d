use Rattle.std.proofs.Common.{◌≡◌, ◌≤◌, ◌-◌, length, take}
use Rattle.http_session.specs.Reading.{IsCalm}
use Rattle.wfsd_commands.specs.Source.{Takes}
use Rattle.wfsd_commands.proofs.source.fill.Given as goal

abbrev pub invariant-loop-done : goal.invariant-loop-done
invariant-loop-done g l = record {
  within : l.done ≤ length l.bytes;
  size : length l.bytes ≡ length l.fn.bytes;
  calm : IsCalm (g.Q.Source.source l.fn.source) (g.Q.Source.source l.source);
  takes : Takes (g.Q.Source.source l.fn.source) (take l.done l.bytes) (g.Q.Source.source l.source);
}

abbrev pub decreases-loop-done : goal.decreases-loop-done
decreases-loop-done g l = length l.initial.bytes - l.done
