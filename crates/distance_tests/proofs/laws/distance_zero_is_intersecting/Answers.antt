use Rattle.distance_tests.proofs.Zero.{at_zero}
use Rattle.distance_tests.proofs.laws.distance_zero_is_intersecting.Goals as goal

pub returns : goal.returns
returns c = at_zero
