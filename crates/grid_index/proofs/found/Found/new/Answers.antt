use Rattle.grid_index.proofs.Marked.{none_marked}
use Rattle.grid_index.proofs.found.Found.new.Goals as goal

pub returns-clause-marked : goal.returns-clause-marked
returns-clause-marked c = none_marked _ _ c.new-2.ensures.empty c.new.ensures.items
