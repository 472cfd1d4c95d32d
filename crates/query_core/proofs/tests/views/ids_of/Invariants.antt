use Rattle.std.proofs.Common.{◌≡◌, map, take}
use Rattle.query_core.proofs.tests.views.ids_of.Given as goal

abbrev pub invariant-loop-feature : goal.invariant-loop-feature
invariant-loop-feature l = l.ids.items ≡ map (λ f. f.id) (take l.feature-index l.features)
