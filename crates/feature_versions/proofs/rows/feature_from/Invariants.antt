use Rattle.std.proofs.Common.{◌≡◌, drop}
use Rattle.std.specs.Prelude.{slice_get}
use Rattle.feature_versions.specs.Rows.{live}
use Rattle.feature_versions.proofs.rows.feature_from.Given as goal

abbrev pub invariant-loop-place : goal.invariant-loop-place
invariant-loop-place l = slice_get (live (drop l.place l.rows)) 0 ≡ slice_get (live (drop l.from l.rows)) 0
