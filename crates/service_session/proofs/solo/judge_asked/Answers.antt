use Rattle.service_session.specs.Solo.{by_bytes, out_of_memory, none}
use Rattle.service_session.proofs.solo.judge_asked.Goals as goal

pub returns-in-Err-Refused-clause-answered : goal.returns-in-Err-Refused-clause-answered
returns-in-Err-Refused-clause-answered g c =
    by_bytes c.in-Err-Refused.refusal ((rw (c.in-Err-Refused.field-0-is, c.schema.ensures.schema) at c.in-Err-Refused.ensures.read) (λ e. absurd cc))

pub returns-in-Err-Refused-clause-steps : goal.returns-in-Err-Refused-clause-steps
returns-in-Err-Refused-clause-steps g c = none

pub returns-in-Err-OutOfMemory-clause-answered : goal.returns-in-Err-OutOfMemory-clause-answered
returns-in-Err-OutOfMemory-clause-answered g c = out_of_memory

pub returns-in-Err-OutOfMemory-clause-steps : goal.returns-in-Err-OutOfMemory-clause-steps
returns-in-Err-OutOfMemory-clause-steps g c = none
