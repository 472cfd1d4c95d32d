use Rattle.std.proofs.Common.{◌≡◌, map, drop, []}
use Rattle.toml.specs.View.{view}
use Rattle.wfs_ends.specs.Read.{each}
use Rattle.feature_schema.specs.File.{type_step}
use Rattle.feature_schema.proofs.types.types_of.Given as goal

abbrev pub invariant-loop-value : goal.invariant-loop-value
invariant-loop-value l = each type_step l.found.items (map view (drop l.value-index l.values)) ≡ each type_step [] (map view l.values)
