use Rattle.std.proofs.Common.{◌≡◌, map, take}
use Rattle.std.specs.Option.{option_copied}
use Rattle.wfs_model.specs.Filled.{filled_filter}
use Rattle.stored_queries.proofs.filling.+filled_filter.Given as goal

abbrev pub invariant-filled_parts-loop-part : goal.invariant-filled_parts-loop-part
invariant-filled_parts-loop-part l = l.all.items ≡ map (filled_filter l.schema (option_copied l.of_type) l.texts) (take l.part-index l.part-items)
