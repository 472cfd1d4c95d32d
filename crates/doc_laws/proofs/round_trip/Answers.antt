use Rattle.doc_laws.proofs.Whole.{round_trip}
use Rattle.doc_laws.proofs.round_trip.Goals as goal

pub returns : goal.returns
returns c = round_trip
