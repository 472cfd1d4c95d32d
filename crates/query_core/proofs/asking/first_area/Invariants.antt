use Rattle.std.proofs.Common.{◌≡◌, drop}
use Rattle.query_core.specs.Finding.{area_of, first_of}
use Rattle.query_core.proofs.asking.first_area.Given as goal

abbrev pub invariant-loop-part : goal.invariant-loop-part
invariant-loop-part l = first_of area_of (drop l.part-index l.parts) ≡ first_of area_of l.parts
