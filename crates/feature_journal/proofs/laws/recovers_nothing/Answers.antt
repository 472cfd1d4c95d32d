use Rattle.feature_journal.proofs.Recovered.{unmade_recovered}
use Rattle.feature_journal.proofs.laws.recovers_nothing.Goals as goal

pub returns : goal.returns
returns c = unmade_recovered
