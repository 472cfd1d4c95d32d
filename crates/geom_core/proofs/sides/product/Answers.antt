use Rattle.std.proofs.Common.{refl, ◌*ℤ◌, w64, FitsSigned, lit<}
use Rattle.std.proofs.lemmas.Int.{to_z-of_z, fits_signed_mul}
use Rattle.geom_core.proofs.sides.product.Goals as goal

pub returns : goal.returns
returns c =
    let fits : FitsSigned w64 (c.args.a *ℤ c.args.b) = fits_signed_mul w64 c.args.a c.args.b 2_000_000_000 2_000_000_000 c.requires.a c.requires.b (lit< tt) in
    let fa : FitsSigned w64 c.args.a = c.ranges.a in
    let fb : FitsSigned w64 c.args.b = c.ranges.b in
    rw (to_z-of_z w64 c.args.a fa, to_z-of_z w64 c.args.b fb, to_z-of_z w64 (c.args.a *ℤ c.args.b) fits) refl
