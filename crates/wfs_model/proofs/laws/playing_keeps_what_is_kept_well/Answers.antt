use Rattle.wfs_model.proofs.Playable.{playing_keeps}
use Rattle.wfs_model.proofs.laws.playing_keeps_what_is_kept_well.Goals as goal

pub returns : goal.returns
returns c = playing_keeps
