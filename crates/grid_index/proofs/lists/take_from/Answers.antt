use Rattle.std.proofs.Common.{ap, ◌∙◌}
use Rattle.grid_index.specs.Counts.{times}
use Rattle.grid_index.proofs.Counts.{times_swap, times_absent}
use Rattle.grid_index.proofs.lists.take_from.Goals as goal

pub returns-in-Some-clause-pairs : goal.returns-in-Some-clause-pairs
returns-in-Some-clause-pairs c = λ p.
    ap (times p) c.swap_remove.ensures.items
    ∙ times_swap p (c.args.id, c.args.area) c.args.list.now.items c.in-Some.i c.swap_remove.result (rw (← c.as_slice.ensures.value) c.in-Some.ensures.some) (λ d. rw (← c.as_slice.ensures.value) (c.in-Some.ensures.is d))

pub returns-in-None-clause-pairs : goal.returns-in-None-clause-pairs
returns-in-None-clause-pairs c = λ p. times_absent p (c.args.id, c.args.area) c.args.list.now.items (rw (← c.as_slice.ensures.value) c.in-None.ensures.none)
