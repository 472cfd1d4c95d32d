use Rattle.distance_tests.proofs.Distances.{symmetric}
use Rattle.distance_tests.proofs.laws.distance_is_symmetric.Goals as goal

pub returns : goal.returns
returns c = symmetric
