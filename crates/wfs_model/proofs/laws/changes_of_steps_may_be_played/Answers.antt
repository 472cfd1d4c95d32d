use Rattle.wfs_model.proofs.Making.{made_playable}
use Rattle.wfs_model.proofs.laws.changes_of_steps_may_be_played.Goals as goal

pub returns : goal.returns
returns c = made_playable
