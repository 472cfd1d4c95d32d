use Rattle.journal_replay.proofs.Taking.{had_again}
use Rattle.journal_replay.proofs.laws.changes_are_had_again.Goals as goal

pub returns : goal.returns
returns c = had_again
