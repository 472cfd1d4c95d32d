use Rattle.geom_core.proofs.Closing.{is_closed-read}
use Rattle.geom_core.proofs.ring.is_closed.Goals as goal

pub returns : goal.returns
returns c = is_closed-read c.args.positions.now c.index-positions-0.result c.index-positions-positions.result c.is_same.result
    c.index-positions-0.is c.index-positions-positions.is c.requires c.is_same.ensures
