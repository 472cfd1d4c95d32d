-- Two places with the same numbers are one.
use Rattle.std.proofs.Common.{◌≡◌, ℤ, true, Some, None, refl, ap}
use Rattle.std.proofs.lemmas.Bool.{and_parts, false≢true}
use Rattle.std.proofs.lemmas.Bool.Decides.{Decides-int_eq}
use Rattle.grid_index.specs.Places.{Place, same_cell, same_place}

same_pair : (a b : ℤ × ℤ) → same_cell a b ≡ true → a ≡ b
same_pair a b e =
    let both = and_parts _ _ e in
    λ i. ((Decides-int_eq a.0 b.0).0 both.0 i, (Decides-int_eq a.1 b.1).0 both.1 i)

pub place_is : (a b : Place) → same_place a b ≡ true → a ≡ b
place_is None None e = refl
place_is None (Some d) e = absurd (false≢true e)
place_is (Some c) None e = absurd (false≢true e)
place_is (Some c) (Some d) e = ap (λ (x : ℤ × ℤ). Some x) (same_pair c d e)

same_pair_self : (a : ℤ × ℤ) → same_cell a a ≡ true
same_pair_self a = rw ((Decides-int_eq a.0 a.0).1 refl, (Decides-int_eq a.1 a.1).1 refl) refl

pub place_self : (a : Place) → same_place a a ≡ true
place_self None = refl
place_self (Some c) = same_pair_self c
