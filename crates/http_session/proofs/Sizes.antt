-- The size that the digits of a chunk line write.
use Rattle.std.proofs.Common.{◌≡◌, ◌≢◌, ℕ, ◌+◌, ◌*◌, ◌^◌, ◌<◌, ◌≤◌, refl, arith}
use Rattle.std.proofs.Math.Nat.{pow-le-pow_right}
use Rattle.std.proofs.lemmas.Grind.{pow_more}

pub size_next : (count size digit : ℕ) → size < 16 ^ count → digit < 16 → size * 16 + digit < 16 ^ (count + 1)
size_next count size digit few small = let k = pow_more 16 count in omega arith

pub size_fits : (count size digit : ℕ) → count ≤ 16 → count ≢ 16 → size < 16 ^ count → digit < 16 → size * 16 + digit < 18446744073709551616
size_fits count size digit le other few small =
    let a = size_next count size digit few small in
    let b : 16 ^ (count + 1) ≤ 16 ^ 16 = pow-le-pow_right {n = 16} (omega arith) {i = count + 1} {j = 16} (omega arith) in
    let c : 16 ^ 16 ≡ 18446744073709551616 = refl in
    omega arith
