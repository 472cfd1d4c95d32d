-- Numbers beyond the range are judged alike.
use Rattle.std.proofs.Common.{◌≡◌, ℕ, zero, suc, ◌+◌, ◌*◌, min, ℤ, Bool, true, false, ◌&&◌, refl, ap, arith}
use Rattle.std.specs.Prelude.{pos, negsuc, neg_ℤ, if◌then◌else◌, Ok, Err, Result}
use Rattle.std.proofs.lemmas.Int.{ints}
use Rattle.geom_core.specs.Plane.{Point}
use Rattle.geom_core.specs.Shapes.{is_coordinate, position_of}
use Rattle.geom_core.specs.declared.fault.GeomFault.{GeomFault}
use Rattle.geom_core.specs.declared.fault.GeomFault.TheVariants.{OutOfRange}
use Rattle.gml_docs.specs.Numbers.{near, near_natural}

-- one more digit
pub near_more : (n d : ℕ) → near_natural (near_natural n * 10 + d) ≡ near_natural (n * 10 + d)
near_more n d = omega arith

pub near_negative : (n : ℕ) → near (neg_ℤ (pos n)) ≡ neg_ℤ (pos (near_natural n))
near_negative zero = refl
near_negative (suc n) = let k : near_natural (suc n) ≡ suc (min n 1_000_000_000) = omega arith in rw k refl

near_test : (z : ℤ) → is_coordinate (near z) ≡ is_coordinate z
near_test (pos n) = grind (arith, ints)
near_test (negsuc n) = grind (arith, ints)

near_same : (z : ℤ) → is_coordinate z ≡ true → near z ≡ z
near_same (pos n) e = grind (arith, ints)
near_same (negsuc n) e = grind (arith, ints)

-- positions of coordinates in range are equal where these are
by_tests : (a b c d : Bool) (p q : Point) → a ≡ c → b ≡ d → (c ≡ true → d ≡ true → p ≡ q)
    → (let r : Result Point GeomFault = if a && b then Ok p else Err OutOfRange in r) ≡ (if c && d then Ok q else Err OutOfRange)
by_tests a b true true p q e f same = rw (e, f) (ap Ok (same refl refl))
by_tests a b true false p q e f same = rw (e, f) refl
by_tests a b false d p q e f same = rw e refl

pub near_position : (x y : ℤ) → position_of (near x) (near y) ≡ position_of x y
near_position x y = by_tests _ _ _ _ _ _ (near_test x) (near_test y) (λ e f. rw (near_same x e, near_same y f) refl)
