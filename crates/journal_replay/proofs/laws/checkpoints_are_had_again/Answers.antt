use Rattle.journal_replay.proofs.Again.{checkpoint_again}
use Rattle.journal_replay.proofs.laws.checkpoints_are_had_again.Goals as goal

pub returns : goal.returns
returns c = checkpoint_again
