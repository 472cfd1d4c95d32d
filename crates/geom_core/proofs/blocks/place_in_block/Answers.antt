use Rattle.std.proofs.Common.{◌∙◌, sym}
use Rattle.geom_core.proofs.Passing.{place_clear, place_beside, place_between}
use Rattle.geom_core.proofs.blocks.place_in_block.Goals as goal

pub returns-then-is_clear : goal.returns-then-is_clear
returns-then-is_clear c = place_clear c.args.p c.args.block.now c.args.bounds c.requires.bounds (sym c.is_clear.ensures ∙ c.if-is_clear.true)

pub returns-then-is_beneath : goal.returns-then-is_beneath
returns-then-is_beneath c =
    place_beside c.args.p c.args.block.now c.args.bounds c.index-block-0.result c.index-block-block.result c.is_beneath.result c.is_beneath-2.result
    c.requires.bounds (sym c.is_before.ensures ∙ c.if-not-is_before.false) c.requires.few c.index-block-0.is c.index-block-block.is
    c.is_beneath.ensures c.is_beneath-2.ensures c.if-is_beneath.true

pub returns-else-is_beneath : goal.returns-else-is_beneath
returns-else-is_beneath c =
    place_between c.args.p c.args.block.now c.args.bounds c.index-block-0.result c.index-block-block.result c.is_beneath.result c.is_beneath-2.result
    c.requires.bounds (sym c.is_before.ensures ∙ c.if-not-is_before.false) c.requires.few c.index-block-0.is c.index-block-block.is
    c.is_beneath.ensures c.is_beneath-2.ensures c.if-is_beneath.false
