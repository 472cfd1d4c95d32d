use Rattle.wfs_world.proofs.Replying.{answers_are}
use Rattle.wfs_world.proofs.laws.answers_are_the_replies_of_the_history.Goals as goal

pub returns : goal.returns
returns c = answers_are
