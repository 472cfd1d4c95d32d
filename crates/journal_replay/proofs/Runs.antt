-- Lists in runs, and facts of pairs of a list.
use Rattle.std.proofs.Common.{◌≡◌, ℕ, ◌+◌, ◌*◌, ◌≤◌, true, List, [], ◌∷◌, ◌++◌, length, get_or, drop, All, refl, arith}
use Rattle.std.specs.Prelude.{zero, suc, nat_le}
use Rattle.std.specs.List.{AllPairs, list_all}
use Rattle.std.specs.Slice.Iter.{chunk_count}
use Rattle.std.proofs.lemmas.Bool.{and_parts}
use Rattle.std.proofs.lemmas.List.{length-drop}
use Rattle.std.proofs.lemmas.List.Elements.{All-nil, All-cons, All-head, All-tail}

-- what is left behind a run
pub fewer : {X : Type 0} (n k : ℕ) (xs : List X) → length xs ≤ suc k * n → length (drop n xs) ≤ k * n
fewer n k xs le =
    let more : suc k * n ≡ n + k * n = omega arith in
    omega (arith, length-drop n xs, more, le)

-- there are as many runs as it takes
pub enough_runs : (n : ℕ) → n ≤ chunk_count n 1_000 * 1_000
enough_runs n = omega arith

-- ---- pairs

module _ {X : Type 0} (R : X → X → Type 0) where
  pub pairs_head : (x : X) (xs : List X) → AllPairs R (x ∷ xs) → All (R x) xs
  pairs_head x xs all k d within = all 0 (suc k) d (omega arith) (omega (arith, within))

  pub pairs_tail : (x : X) (xs : List X) → AllPairs R (x ∷ xs) → AllPairs R xs
  pairs_tail x xs all i j d less within = all (suc i) (suc j) d (omega (arith, less)) (omega (arith, within))

  middle_of : (P : X → Type 0) (xs : List X) (y : X) (ys : List X) → All P (xs ++ y ∷ ys) → P y
  middle_of P [] y ys all = All-head P y ys all
  middle_of P (x ∷ xs) y ys all = middle_of P xs y ys (All-tail P x (xs ++ y ∷ ys) all)

  -- each before one of them goes with it
  pub pairs_middle : (xs : List X) (y : X) (ys : List X) → AllPairs R (xs ++ y ∷ ys) → All (λ x. R x y) xs
  pairs_middle [] y ys all = All-nil (λ (x : X). R x y)
  pairs_middle (x ∷ xs) y ys all =
      All-cons (λ (z : X). R z y) x xs (middle_of (R x) xs y ys (pairs_head x (xs ++ y ∷ ys) all)) (pairs_middle xs y ys (pairs_tail x (xs ++ y ∷ ys) all))

-- ---- numbers

-- where no number is above another, none that is found is
pub low_at : (most : ℕ) (ns : List ℕ) (k : ℕ) → All (λ n. n ≤ most) ns → get_or ns k 0 ≤ most
low_at most [] k all = omega arith
low_at most (n ∷ ns) zero all = All-head (λ m. m ≤ most) n ns all
low_at most (n ∷ ns) (suc k) all = low_at most ns k (All-tail (λ m. m ≤ most) n ns all)

-- and each passes the test
pub low_all : (most : ℕ) (ns : List ℕ) → All (λ n. n ≤ most) ns → list_all (λ n. nat_le n most) ns ≡ true
low_all most [] all = refl
low_all most (n ∷ ns) all =
    let first : nat_le n most ≡ true = (let low = All-head (λ m. m ≤ most) n ns all in grind (arith, low)) in
    rw first (low_all most ns (All-tail (λ m. m ≤ most) n ns all))

pub all_low : (most : ℕ) (ns : List ℕ) → list_all (λ n. nat_le n most) ns ≡ true → All (λ n. n ≤ most) ns
all_low most [] all = All-nil (λ m. m ≤ most)
all_low most (n ∷ ns) all =
    let both = and_parts (nat_le n most) (list_all (λ m. nat_le m most) ns) all in
    All-cons (λ m. m ≤ most) n ns (let first = both.0 in grind (arith, first)) (all_low most ns both.1)
