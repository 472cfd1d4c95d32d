use Rattle.wfs_machine.proofs.Laying.{part_in_order}
use Rattle.std.proofs.Common.{subst}
use Rattle.fes_filter.specs.View.{IsInOrder}
use Rattle.std.proofs.Common.{sym}
use Rattle.wfs_machine.proofs.playing.play.Goals as goal

pub returns-clause-order : goal.returns-clause-order
returns-clause-order c = subst IsInOrder (sym c.lay.ensures.items) (part_in_order c.args.features.now.items c.args.part c.requires.order)
