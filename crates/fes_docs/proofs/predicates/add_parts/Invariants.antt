use Rattle.std.proofs.Common.{◌≡◌, take, ◌++◌}
use Rattle.std.specs.Prelude.{string_bytes}
use Rattle.std.specs.List.{flat_map}
use Rattle.fes_docs.specs.Written.{part_text}
use Rattle.fes_docs.proofs.predicates.add_parts.Given as goal

abbrev pub invariant-loop-part : goal.invariant-loop-part
invariant-loop-part l = string_bytes l.line ≡ string_bytes l.fn.line ++ flat_map part_text (take l.part-index l.parts)
