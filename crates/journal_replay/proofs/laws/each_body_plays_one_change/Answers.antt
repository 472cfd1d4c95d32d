use Rattle.journal_replay.proofs.Restoring.{plays_one}
use Rattle.journal_replay.proofs.laws.each_body_plays_one_change.Goals as goal

pub returns : goal.returns
returns c = plays_one
