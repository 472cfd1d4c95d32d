use Rattle.std.proofs.Common.{◌≡◌, map, take}
use Rattle.query_core.specs.Selecting.{ids_of}
use Rattle.query_core.proofs.keyed.ids_of_keyed.Given as goal

abbrev pub invariant-loop-keyed : goal.invariant-loop-keyed
invariant-loop-keyed l = l.ids.items ≡ ids_of (map (λ k. k.feature.now) (take l.keyed-index l.all))
