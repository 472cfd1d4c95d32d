use Rattle.std.proofs.Common.{None}
use Rattle.store_rows.proofs.held.told_on.Goals as goal

pub change-recorded-requires-clause-keeps : goal.change-recorded-requires-clause-keeps
change-recorded-requires-clause-keeps g c = (c.in-Ok.opened.features.schema, c.in-Ok.opened.features.kept, None, c.is_shortened-is_done.ensures.keeps)
