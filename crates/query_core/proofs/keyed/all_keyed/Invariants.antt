use Rattle.std.proofs.Common.{◌≡◌, map, take}
use Rattle.query_core.specs.Keyed.{pair_of, pair_by}
use Rattle.query_core.proofs.keyed.all_keyed.Given as goal

abbrev pub invariant-loop-feature : goal.invariant-loop-feature
invariant-loop-feature l = map pair_of l.all.items ≡ map (λ f. pair_by l.keys f.now) (take l.feature-index l.features)
