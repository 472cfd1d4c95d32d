use Rattle.wfs_ends.proofs.Writing.{wrote_steps}
use Rattle.gml_docs.proofs.Printed.{id_escaped}
use Rattle.gml_docs.proofs.print.put_id.Goals as goal

pub returns : goal.returns
returns g c = rw (id_escaped c.args.kind.now c.args.number c.args.property.now c.utf8.kind) (search wrote_steps depth 12)
