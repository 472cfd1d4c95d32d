use Rattle.feature_journal.proofs.Refused.{refused_torn}
use Rattle.feature_journal.proofs.laws.refuses_torn_records.Goals as goal

pub returns : goal.returns
returns c = refused_torn
