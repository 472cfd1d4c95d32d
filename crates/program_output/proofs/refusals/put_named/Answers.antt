use Rattle.wfs_ends.proofs.Writing.{wrote_both}
use Rattle.program_output.proofs.refusals.put_named.Goals as goal

pub returns : goal.returns
returns g c = wrote_both _ _ _ c.args.kind.now c.args.name.now c.put_on-failed.ensures (rw c.as_bytes.ensures.value at c.put_on.ensures)
