use Rattle.std.proofs.Common.{◌≡◌, ◌+◌, ◌≤◌, length, drop}
use Rattle.std.specs.List.{flat_map}
use Rattle.wfs_ends.specs.Ends.{capped, last_count}
use Rattle.journal_format.proofs.field.length_of_all.Given as goal

abbrev pub invariant-loop-field : goal.invariant-loop-field
invariant-loop-field g l = (l.total ≤ last_count) × (capped (l.total + length (flat_map g.T.Field.spelling (drop l.field-index l.fields))) ≡ capped (length (flat_map g.T.Field.spelling l.fields)))
