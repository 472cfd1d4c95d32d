use Rattle.geom_core.proofs.Boxes.{least_box-read}
use Rattle.geom_core.proofs.extent.least_box.Goals as goal

pub returns : goal.returns
returns c = least_box-read c.args.positions.now c.index-positions-0.result c.at.result c.all_grown.result c.index-positions-0.is c.requires c.at.ensures c.all_grown.ensures
