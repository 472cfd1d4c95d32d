use Rattle.wfs_ends.proofs.Writing.{wrote_steps}
use Rattle.gml_docs.specs.Printed.{ring_text}
use Rattle.gml_docs.proofs.print.put_ring.Goals as goal

pub returns : goal.returns
unfolding ring_text
returns g c = rw (← c.positions.ensures) (search wrote_steps depth 12)
