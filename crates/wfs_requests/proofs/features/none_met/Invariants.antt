use Rattle.std.proofs.Common.{◌≡◌, map, take, false}
use Rattle.wfs_requests.proofs.features.none_met.Given as goal

abbrev pub invariant-loop : goal.invariant-loop
invariant-loop l = l.met.items ≡ map (λ p. false) (take l.index l.properties)
