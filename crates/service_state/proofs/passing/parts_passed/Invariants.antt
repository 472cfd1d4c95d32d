use Rattle.std.proofs.Common.{◌≡◌, drop}
use Rattle.std.specs.List.{fold}
use Rattle.feature_versions.specs.Types.{counted}
use Rattle.wfs_model.specs.Full.{some_passes}
use Rattle.service_state.proofs.passing.parts_passed.Given as goal

abbrev pub invariant-loop-kind : goal.invariant-loop-kind
invariant-loop-kind l = let nows = fold counted l.counters l.parts in some_passes l.limit (drop l.kind l.counters) (drop l.kind nows) ≡ some_passes l.limit l.counters nows
