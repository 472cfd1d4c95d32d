use Rattle.std.proofs.Common.{◌≡◌, ◌+◌, ◌≤◌, ◌++◌, length, drop, take}
use Rattle.std.specs.Prelude.{vec_len, vec_capacity}
use Rattle.std.specs.List.{flat_map, All}
use Rattle.journal_format.proofs.field.put_all.Given as goal

abbrev pub invariant-loop-field : goal.invariant-loop-field
invariant-loop-field g l =
    (l.into.items ++ flat_map g.T.Field.spelling (drop l.field-index l.fields) ≡ l.fn.into.items ++ flat_map g.T.Field.spelling l.fields)
    × (vec_len l.into + length (flat_map g.T.Field.spelling (drop l.field-index l.fields)) ≡ vec_len l.fn.into + length (flat_map g.T.Field.spelling l.fields))
    × (vec_capacity l.fn.into ≤ vec_capacity l.into)
    × All g.T.Field.writable (take l.field-index l.fields)
