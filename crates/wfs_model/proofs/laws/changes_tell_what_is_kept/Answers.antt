use Rattle.wfs_model.proofs.Stepping.{all_follow}
use Rattle.wfs_model.proofs.laws.changes_tell_what_is_kept.Goals as goal

pub returns : goal.returns
returns c = all_follow
