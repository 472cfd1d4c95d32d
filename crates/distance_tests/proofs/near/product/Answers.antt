use Rattle.std.proofs.Common.{refl, ◌*ℤ◌, w64, FitsSigned, lit<}
use Rattle.std.proofs.lemmas.Int.{to_z-of_z, fits_signed_mul}
use Rattle.distance_tests.proofs.Products.{product-far}
use Rattle.distance_tests.proofs.near.product.Goals as goal

pub returns-clause-value : goal.returns-clause-value
returns-clause-value c =
    let fits : FitsSigned w64 (c.args.a *ℤ c.args.b) = fits_signed_mul w64 c.args.a c.args.b 2_000_000_000 2_000_000_000 c.requires.a c.requires.b (lit< tt) in
    let fa : FitsSigned w64 c.args.a = c.ranges.a in
    let fb : FitsSigned w64 c.args.b = c.ranges.b in
    rw (to_z-of_z w64 c.args.a fa, to_z-of_z w64 c.args.b fb, to_z-of_z w64 (c.args.a *ℤ c.args.b) fits) refl

pub returns-clause-far : goal.returns-clause-far
returns-clause-far c = rw (returns-clause-value c) (product-far c.args.a c.args.b c.requires.a c.requires.b)
