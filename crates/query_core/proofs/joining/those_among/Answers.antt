use Rattle.query_core.proofs.Once.{rises_sorted}
use Rattle.query_core.proofs.joining.those_among.Goals as goal

pub has-requires : goal.has-requires
has-requires c = rises_sorted c.args.sorted.now c.requires
