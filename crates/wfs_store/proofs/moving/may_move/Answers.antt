use Rattle.wfs_store.proofs.Sending.{store_send}
use Rattle.wfs_store.proofs.moving.may_move.Goals as goal

pub returns : goal.returns
returns c κs = store_send _ c.D.Disk
