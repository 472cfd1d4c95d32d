use Rattle.std.proofs.Common.{◌≡◌, drop}
use Rattle.wfs_model.specs.Playable.{are_names}
use Rattle.feature_versions.proofs.accepting.are_names.Given as goal

abbrev pub invariant-loop-i : goal.invariant-loop-i
invariant-loop-i l = are_names (drop l.i l.names) ≡ are_names l.names
