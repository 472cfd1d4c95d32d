use Rattle.wfs_ends.proofs.Writing.{wrote_steps}
use Rattle.gml_docs.specs.Printed.{some_positions_text}
use Rattle.gml_docs.proofs.print.put_some_positions.Goals as goal

pub returns : goal.returns
unfolding some_positions_text
returns g c = search wrote_steps depth 12
