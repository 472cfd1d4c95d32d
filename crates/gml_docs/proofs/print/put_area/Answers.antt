use Rattle.wfs_ends.proofs.Writing.{wrote_steps}
use Rattle.gml_docs.specs.Printed.{area_text}
use Rattle.gml_docs.proofs.print.put_area.Goals as goal

pub returns : goal.returns
unfolding area_text
returns g c = rw (← c.shell.ensures, ← c.holes.ensures) (search wrote_steps depth 12)
