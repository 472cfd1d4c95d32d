use Rattle.std.proofs.Common.{◌≡◌, take, true}
use Rattle.std.specs.List.{list_all}
use Rattle.http_session.specs.Cuts.{is_of}
use Rattle.http_session.proofs.cut.run_length.Given as goal

abbrev pub invariant-loop-i : goal.invariant-loop-i
invariant-loop-i l = list_all (is_of l.class) (take l.i l.bytes) ≡ true
