use Rattle.std.proofs.Common.{◌∙◌, sym, ap, arith}
use Rattle.geom_core.specs.Places.{place_of}
use Rattle.geom_core.proofs.Passing.{BlocksPassed-within, BlocksPassed-outside, on_block, within_blocks, outside_blocks}
use Rattle.geom_core.proofs.blocks.place_by_boxes.Goals as goal
use Rattle.geom_core.proofs.blocks.place_by_boxes.Goals.{in-Within, in-Outside}

pub returns-in-On : goal.returns-in-On
returns-in-On c = on_block c.args.p c.args.ring.now c.loop-number.number c.loop-number.is_round c.loop-number.invariant
    (sym c.in-On.is ∙ (c.place_in_block.ensures ∙ ap (place_of c.args.p) c.block_at.ensures.value))

pub loop-number-preserved : goal.loop-number-preserved
loop-number-preserved c = elim c.match-place_in_block.branch [
  | in-Within w ↦ rw w.is_round-is (BlocksPassed-within c.args.p c.args.ring.now c.loop-number.number c.loop-number.is_round c.loop-number.invariant
      (sym w.in-Within.is ∙ (c.place_in_block.ensures ∙ ap (place_of c.args.p) c.block_at.ensures.value)))
  | in-Outside w ↦ rw w.is_round-is (BlocksPassed-outside c.args.p c.args.ring.now c.loop-number.number c.loop-number.is_round c.loop-number.invariant
      (sym w.in-Outside.is ∙ (c.place_in_block.ensures ∙ ap (place_of c.args.p) c.block_at.ensures.value)))
]

pub returns-then-is_round : goal.returns-then-is_round
returns-then-is_round c = within_blocks c.args.p c.args.ring.now c.loop-number.number c.loop-number.is_round
    (omega (arith, c.loop-number-test.false, c.block_count-number-end.ensures.all)) c.loop-number.invariant c.if-is_round.true

pub returns-else-is_round : goal.returns-else-is_round
returns-else-is_round c = outside_blocks c.args.p c.args.ring.now c.loop-number.number c.loop-number.is_round
    (omega (arith, c.loop-number-test.false, c.block_count-number-end.ensures.all)) c.loop-number.invariant c.if-is_round.false
