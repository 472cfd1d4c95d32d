use Rattle.std.proofs.Common.{◌≡◌, ◌++◌, take}
use Rattle.std.specs.Prelude.{string_bytes}
use Rattle.std.specs.List.{flat_map}
use Rattle.gml_docs.specs.Written.{next_text}
use Rattle.gml_docs.proofs.tree.add_rest.Given as goal

abbrev pub invariant-loop-p : goal.invariant-loop-p
invariant-loop-p l = string_bytes l.line ≡ string_bytes l.fn.line ++ flat_map next_text (take l.p-index l.positions)
