use Rattle.service_session.specs.Solo.{none}
use Rattle.service_session.proofs.solo.carry_out.Goals as goal

pub returns-else-is_change-clause-steps : goal.returns-else-is_change-clause-steps
returns-else-is_change-clause-steps g c = none
