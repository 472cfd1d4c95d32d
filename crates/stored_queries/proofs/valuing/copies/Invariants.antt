use Rattle.std.proofs.Common.{◌≡◌, map, take}
use Rattle.stored_queries.proofs.valuing.copies.Given as goal

abbrev pub invariant-loop-feature : goal.invariant-loop-feature
invariant-loop-feature l = l.all.items ≡ map (λ f. f.now) (take l.feature-index l.features)
