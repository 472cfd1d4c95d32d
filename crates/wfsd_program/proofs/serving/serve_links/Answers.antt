use Rattle.wfsd_program.specs.Serving.{told, untold}
use Rattle.wfsd_program.proofs.Closing as line
use Rattle.wfsd_program.proofs.serving.serve_links.Goals as goal

pub returns-then-put_serving-clause-serves : goal.returns-then-put_serving-clause-serves
returns-then-put_serving-clause-serves g c =
    untold (record { says = line.untold _ _ _ _ c.if-put_serving.true c.put_serving.ensures; leaves = c.leave_standing.ensures.leaves })

pub returns-else-put_serving-clause-serves : goal.returns-else-put_serving-clause-serves
returns-else-put_serving-clause-serves g c = told _ (line.told _ _ _ _ c.if-put_serving.false c.put_serving.ensures) c.serve_slots.ensures.serves
