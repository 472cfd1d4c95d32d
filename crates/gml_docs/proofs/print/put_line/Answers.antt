use Rattle.wfs_ends.proofs.Writing.{wrote_steps}
use Rattle.gml_docs.specs.Printed.{line_text}
use Rattle.gml_docs.proofs.print.put_line.Goals as goal

pub returns : goal.returns
unfolding line_text
returns g c = search wrote_steps depth 12
