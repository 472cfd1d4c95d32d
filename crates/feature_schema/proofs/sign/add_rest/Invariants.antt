use Rattle.std.proofs.Common.{◌≡◌, ◌++◌, take}
use Rattle.std.specs.Prelude.{string_bytes}
use Rattle.std.specs.List.{flat_map}
use Rattle.feature_schema.specs.Signature.{next_text}
use Rattle.feature_schema.proofs.sign.add_rest.Given as goal

abbrev pub invariant-loop-property : goal.invariant-loop-property
invariant-loop-property l = string_bytes l.line ≡ string_bytes l.fn.line ++ flat_map next_text (take l.property-index l.properties)
