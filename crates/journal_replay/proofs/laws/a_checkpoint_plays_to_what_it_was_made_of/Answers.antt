use Rattle.journal_replay.proofs.Checkpoints.{checkpoint_plays, checkpoint_may}
use Rattle.journal_replay.proofs.laws.a_checkpoint_plays_to_what_it_was_made_of.Goals as goal

pub returns-clause-played : goal.returns-clause-played
returns-clause-played c = checkpoint_plays

pub returns-clause-playable : goal.returns-clause-playable
returns-clause-playable c = checkpoint_may
