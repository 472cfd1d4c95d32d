use Rattle.std.proofs.Common.{◌≡◌, filter, take}
use Rattle.query_core.specs.Selecting.{ids_of}
use Rattle.wfs_machine.specs.Ordered.{of_type}
use Rattle.wfs_machine.proofs.ordered.ids_of_type.Given as goal

abbrev pub invariant-loop-feature : goal.invariant-loop-feature
invariant-loop-feature l = l.ids.items ≡ ids_of (filter (of_type l.kind) (take l.feature-index l.features))
