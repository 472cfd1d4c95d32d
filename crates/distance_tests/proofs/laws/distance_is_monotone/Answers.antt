use Rattle.distance_tests.proofs.Distances.{monotone}
use Rattle.distance_tests.proofs.laws.distance_is_monotone.Goals as goal

pub returns : goal.returns
returns c = monotone
