use Rattle.geom_core.proofs.Walks.{place_of-read}
use Rattle.geom_core.proofs.placing.place_in.Goals as goal

pub returns : goal.returns
returns c = place_of-read c.args.p c.args.ring.now c.index-ring-0.result c.walk.result c.index-ring-0.is c.requires.few c.walk.ensures
