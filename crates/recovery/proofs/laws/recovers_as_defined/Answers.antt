use Rattle.recovery.proofs.Agrees.{agreed, recovers_found, recovers_none}
use Rattle.recovery.proofs.laws.recovers_as_defined.Goals as goal

pub returns-clause-found : goal.returns-clause-found
returns-clause-found c judge limit a b second generation gate bodies is = (_, recovers_found a b second generation gate bodies (agreed judge limit a b second generation gate bodies is))

pub returns-clause-none : goal.returns-clause-none
returns-clause-none c = recovers_none
