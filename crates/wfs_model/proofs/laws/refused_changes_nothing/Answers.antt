use Rattle.wfs_model.proofs.Refusing.{refused_keeps}
use Rattle.wfs_model.proofs.laws.refused_changes_nothing.Goals as goal

pub returns : goal.returns
returns c = refused_keeps
