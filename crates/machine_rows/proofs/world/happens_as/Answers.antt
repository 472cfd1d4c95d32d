use Rattle.wfs_world.proofs.Sequences.{happens_schema}
use Rattle.machine_rows.proofs.world.happens_as.Goals as goal

pub returns : goal.returns
returns c = happens_schema _ _ _ _ c.step-seen.ensures
