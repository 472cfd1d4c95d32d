use Rattle.gml_docs.proofs.Reading.{reads_back}
use Rattle.gml_docs.proofs.laws.round_trip.Goals as goal

pub returns : goal.returns
returns c = reads_back
