use Rattle.std.proofs.Common.{◌≡◌, ◌++◌, take}
use Rattle.std.specs.Prelude.{string_bytes}
use Rattle.std.specs.List.{flat_map}
use Rattle.feature_schema.specs.Signature.{type_text}
use Rattle.feature_schema.proofs.sign.add_types.Given as goal

abbrev pub invariant-loop-of_type : goal.invariant-loop-of_type
invariant-loop-of_type l = string_bytes l.line ≡ string_bytes l.fn.line ++ flat_map type_text (take l.of_type-index l.types)
