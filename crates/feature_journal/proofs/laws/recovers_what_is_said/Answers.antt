use Rattle.feature_journal.proofs.Recovered.{says_recovered}
use Rattle.feature_journal.proofs.laws.recovers_what_is_said.Goals as goal

pub returns : goal.returns
returns c = says_recovered
