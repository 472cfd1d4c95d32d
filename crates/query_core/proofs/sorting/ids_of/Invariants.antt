use Rattle.std.proofs.Common.{◌≡◌, map, take}
use Rattle.query_core.specs.Selecting.{ids_of}
use Rattle.query_core.proofs.sorting.ids_of.Given as goal

abbrev pub invariant-loop-feature : goal.invariant-loop-feature
invariant-loop-feature l = l.ids.items ≡ ids_of (map (λ f. f.now) (take l.feature-index l.features))
