use Rattle.std.proofs.Common.{arith}
use Rattle.std.proofs.lemmas.Int.{ints, clamps, to_z-of_z}
use Rattle.geom_core.proofs.extent.low_corner.Goals as goal

pub invariant_of-result : goal.invariant_of-result
invariant_of-result c = record {
  x = record { from = omega (arith, ints, clamps); to = omega (arith, ints, clamps) };
  y = record { from = omega (arith, ints, clamps); to = omega (arith, ints, clamps) };
}

pub returns : goal.returns
returns c = grind (arith, to_z-of_z)
