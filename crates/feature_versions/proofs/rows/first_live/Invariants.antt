use Rattle.feature_versions.specs.Rows.{AreGone}
use Rattle.feature_versions.proofs.rows.first_live.Given as goal

abbrev pub invariant-loop-place : goal.invariant-loop-place
invariant-loop-place l = AreGone l.from l.rows → AreGone l.place l.rows
