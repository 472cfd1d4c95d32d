use Rattle.wfs_world.proofs.Leading.{is_sound}
use Rattle.wfs_world.proofs.laws.whatever_happens_is_sound.Goals as goal

pub returns : goal.returns
returns c = is_sound
