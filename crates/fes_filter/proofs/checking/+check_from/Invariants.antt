use Rattle.std.proofs.Common.{◌≡◌, drop}
use Rattle.std.specs.List.{flat_map}
use Rattle.std.specs.Option.{option_copied}
use Rattle.wfs_ends.specs.Read.{each}
use Rattle.fes_filter.specs.Check.{counted, verdicts}
use Rattle.fes_filter.proofs.checking.+check_from.Given as goal

-- The rest of the parts, behind those that were judged.
abbrev pub invariant-check_parts-loop-part : goal.invariant-check_parts-loop-part
invariant-check_parts-loop-part l = each counted l.left (flat_map (verdicts (option_copied l.of_type)) (drop l.part-index l.part-items)) ≡ each counted l.initial.left (flat_map (verdicts (option_copied l.of_type)) l.part-items)
