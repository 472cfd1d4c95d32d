use Rattle.feature_journal.proofs.Parsed.{records_again}
use Rattle.feature_journal.proofs.laws.reads_records_back.Goals as goal

pub returns : goal.returns
returns c = records_again
