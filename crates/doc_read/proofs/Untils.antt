-- Steps up to one that ends them.
use Rattle.std.proofs.Common.{◌≡◌, ℕ, zero, suc, sub-one, ◌-◌, ◌<◌, Bool, true, false, Result, Ok, refl, arith}
use Rattle.wfs_ends.specs.Read.{until}

pub until_next : {E A : Type 0} (out : E) (step : A → Result (Bool × A) E) (n : ℕ) (s t : A) → 0 < n → step s ≡ Ok (false, t) → until out step n s ≡ until out step (n - 1) t
unfolding until
until_next out step zero s t lt now = absurd (omega arith)
until_next out step (suc n) s t lt now = rw (now, sub-one) refl

pub until_stops : {E A : Type 0} (out : E) (step : A → Result (Bool × A) E) (n : ℕ) (s t : A) → 0 < n → step s ≡ Ok (true, t) → until out step n s ≡ Ok t
unfolding until
until_stops out step zero s t lt now = absurd (omega arith)
until_stops out step (suc n) s t lt now = rw now refl
