-- A change finds nothing published.
use Rattle.shared_store.proofs.Taken.{found_same}
use Rattle.shared_store.proofs.taking.carry_out.Goals as goal

pub returns-then-is_change-clause-found : goal.returns-then-is_change-clause-found
returns-then-is_change-clause-found g c = found_same _ _ c.take_step.ensures.found
