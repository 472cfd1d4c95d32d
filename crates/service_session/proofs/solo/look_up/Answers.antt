use Rattle.service_session.specs.Solo.{only_read, out_of_memory}
use Rattle.service_session.proofs.solo.look_up.Goals as goal

pub returns-in-Ok : goal.returns-in-Ok
returns-in-Ok g c = rw c.in-Ok.ensures (only_read c.args.request.now c.requires.asked c.requires.read)

pub returns-in-Err : goal.returns-in-Err
returns-in-Err g c = out_of_memory
