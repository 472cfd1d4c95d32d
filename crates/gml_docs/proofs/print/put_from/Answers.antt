use Rattle.wfs_ends.proofs.Writing.{wrote_both}
use Rattle.gml_docs.proofs.print.put_from.Goals as goal

pub returns : goal.returns
returns g c = wrote_both _ _ _ _ _ c.put_position-failed.ensures c.put_rest.ensures
