use Rattle.wfs_ends.proofs.Writing.{wrote_steps}
use Rattle.gml_docs.specs.Printed.{point_text}
use Rattle.gml_docs.proofs.print.put_point.Goals as goal

pub returns : goal.returns
unfolding point_text
returns g c = search wrote_steps depth 12
