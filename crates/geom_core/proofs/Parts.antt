-- Equations of polynomials over whole numbers with a sign: each such number is written as a difference of two
-- natural numbers, where products multiply out.
use Rattle.std.proofs.Common.{◌≡◌, ℕ, ◌+◌, ◌*◌, ℤ, ◌-ℤ◌, ◌*ℤ◌, ap, arith}
use Rattle.std.proofs.lemmas.Int.{ints}
use borrow.Author.Differences.{up, down, product_is, same_in}

pub record Parts (z : ℤ) : Type 0 where
  pub p : ℕ
  pub q : ℕ
  pub is : up z + q ≡ down z + p

abbrev pub itself : (z : ℤ) → Parts z
itself z = record { p = up z; q = down z; is = omega arith }

pub minus_is : (a b : ℤ) (p q r s : ℕ) → up a + q ≡ down a + p → up b + s ≡ down b + r → up (a -ℤ b) + (q + r) ≡ down (a -ℤ b) + (p + s)
minus_is a b p q r s e f = omega (arith, ints)

pub times_is : (a b : ℤ) (p q r s : ℕ) → up a + q ≡ down a + p → up b + s ≡ down b + r →
    up (a *ℤ b) + (p * s + q * r) ≡ down (a *ℤ b) + (p * r + q * s)
times_is a b p q r s e f = omega (
  arith,
  product_is a b,
  ap (λ n. n * up b) e,
  ap (λ n. n * down b) e,
  ap (λ n. p * n) f,
  ap (λ n. q * n) f,
)

abbrev pub minus : (a b : ℤ) → Parts a → Parts b → Parts (a -ℤ b)
minus a b x y = record { p = x.p + y.q; q = x.q + y.p; is = minus_is a b x.p x.q y.p y.q x.is y.is }

abbrev pub times : (a b : ℤ) → Parts a → Parts b → Parts (a *ℤ b)
times a b x y = record { p = x.p * y.p + x.q * y.q; q = x.p * y.q + x.q * y.p; is = times_is a b x.p x.q y.p y.q x.is y.is }

pub same_from : (a b : ℤ) (x : Parts a) (y : Parts b) → x.p + y.q ≡ x.q + y.p → a ≡ b
same_from a b x y e = let f = x.is in let g = y.is in same_in a b (omega arith)
