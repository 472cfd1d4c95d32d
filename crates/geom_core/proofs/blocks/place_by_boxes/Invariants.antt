use Rattle.geom_core.proofs.Passing.{BlocksPassed}
use Rattle.geom_core.proofs.blocks.place_by_boxes.Given as goal

abbrev pub invariant-loop-number : goal.invariant-loop-number
invariant-loop-number l = BlocksPassed l.p l.ring l.number l.is_round
