use Rattle.journal_format.proofs.Changes.{reads_back}
use Rattle.journal_format.proofs.laws.reads_back.Goals as goal

pub returns : goal.returns
returns c = reads_back
