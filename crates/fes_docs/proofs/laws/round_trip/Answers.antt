use Rattle.fes_docs.proofs.Whole.{filters_read_back}
use Rattle.fes_docs.proofs.laws.round_trip.Goals as goal

pub returns : goal.returns
returns c = filters_read_back
