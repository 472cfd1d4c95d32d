use Rattle.std.proofs.Common.{inl, None}
use Rattle.durable_journal.proofs.tests.add_on.Goals as goal

pub add-requires-clause-keeps : goal.add-requires-clause-keeps
add-requires-clause-keeps g c = (c.args.schema.now, c.in-Ok.opened.features.kept, None, inl c.in-Ok.ensures.opened.rests)
