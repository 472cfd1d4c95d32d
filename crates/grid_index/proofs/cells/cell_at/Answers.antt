use Rattle.std.proofs.Common.{◌∙◌, arith}
use Rattle.std.proofs.lemmas.Int.{ints}
use Rattle.grid_index.proofs.Covered.{cell_step, first_cell}
use Rattle.grid_index.proofs.cells.cell_at.Goals as goal

pub above-requires : goal.above-requires
above-requires c = (omega (arith, ints, c.cell_of.ensures.bound), cell_step c.args.i c.columns-columns.result c.rows-rows.result (omega (arith, c.rows-rows.ensures.value)) (rw (c.columns-columns.ensures.value, c.rows-rows.ensures.value) c.requires) c.columns-columns.ensures.bound)

pub returns-then-i-eq0 : goal.returns-then-i-eq0
returns-then-i-eq0 c = c.first_cell.ensures ∙ first_cell c.args.area.now c.args.i c.if-i-eq0.true
