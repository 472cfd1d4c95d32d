use Rattle.std.proofs.Common.{subst}
use Rattle.geom_core.specs.Plane.{Bounds, IsUpright}
use Rattle.grid_index.specs.Lists.{listed_at}
use Rattle.grid_index.proofs.Nearby.{found_asked}
use Rattle.grid_index.proofs.search.in_cells.Goals as goal

pub returns : goal.returns
returns c = λ pairs h.
    found_asked (listed_at c.args.lists.now) pairs c.args.asked.now _ (subst (λ (b : Bounds). IsUpright b) c.asked.view_is c.asked.invariant) c.requires c.in_ok-collect_near.ensures.finds c.in_ok-collect_near.ensures.marked.once h
