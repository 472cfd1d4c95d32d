use Rattle.std.proofs.Common.{refl}
use Rattle.wfs_model.specs.Filled.{filled}
use Rattle.stored_queries.proofs.filling.filled.Goals as goal

pub returns : goal.returns
unfolding filled
returns c = rw (c.of.ensures, c.in_ok-from_slice.ensures.items, c.items.ensures, c.in_ok-filter.ensures, c.type_in-of_type.ensures) refl
