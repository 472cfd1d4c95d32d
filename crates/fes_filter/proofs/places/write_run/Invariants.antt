use Rattle.std.proofs.Common.{◌≡◌, ◌++◌, drop}
use Rattle.std.specs.Prelude.{encode_utf8_all}
use Rattle.fes_filter.specs.LikePlace.{letters}
use Rattle.fes_filter.proofs.places.write_run.Given as goal

abbrev pub invariant-loop-part : goal.invariant-loop-part
invariant-loop-part g l = encode_utf8_all (letters l.parts) ≡ l.run.bytes ++ encode_utf8_all (letters (drop l.part-index l.parts))
