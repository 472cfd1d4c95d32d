-- What a search by halving finds among locks whose numbers rise.
use Rattle.std.proofs.Common.{◌≡◌, ℕ, ◌<◌, ◌≤◌, false, List, [], ◌∷◌, length, get_or, Result, Ok, Err, MatchOption, sym, arith}
use Rattle.std.specs.Prelude.{zero, suc, ◌==◌, HoldsAt}
use Rattle.std.specs.List.{AllByRecursion}
use Rattle.std.specs.List.Sorted.{IsSearchInRange, IsBinarySearchResult, IsNonDecreasingBy}
use Rattle.std.specs.Ordering.{nat_cmp, ordering_index}
use Rattle.std.specs.Result.{result_ok}
use Rattle.std.proofs.lemmas.Cmp.{ranked}
use Rattle.std.proofs.lemmas.Bool.Decides.{nat_tests}
use Rattle.lock_table.specs.Lock.{Lock}
use Rattle.lock_table.specs.Held.{IsRising}
use Rattle.lock_table.proofs.Rising.{HasNot, number_below}

all_of : {X : Type 0} (P : X → Type 0) (xs : List X) → ((k : ℕ) (d : X) → k < length xs → P (get_or xs k d)) → AllByRecursion P xs
all_of P [] h = tt
all_of P (x ∷ xs) h = (h 0 x (omega arith), all_of P xs (λ k d lt. h (suc k) d (omega (arith, lt))))

rises : (low : ℕ) (locks : List Lock) (i j : ℕ) (d : Lock) → IsRising low locks → i ≤ j → j < length locks → (get_or locks i d).number ≤ (get_or locks j d).number
rises low [] i j d r le lt = absurd (omega (arith, lt))
rises low (l ∷ ls) zero zero d r le lt = omega arith
rises low (l ∷ ls) zero (suc j) d r le lt = let more : l.number < (get_or ls j d).number = number_below l.number ls j d r.1 (omega (arith, lt)) in omega (arith, more)
rises low (l ∷ ls) (suc i) zero d r le lt = absurd (omega (arith, le))
rises low (l ∷ ls) (suc i) (suc j) d r le lt = rises l.number ls i j d r.1 (omega (arith, le)) (omega (arith, lt))

index_rises : (number a b : ℕ) → a ≤ b → ordering_index (nat_cmp a number) ≤ ordering_index (nat_cmp b number)
index_rises number a b le = grind (arith, nat_tests, le)

apart : (a b : ℕ) → (a ≡ b → ⊥) → (a == b) ≡ false
apart a b ne = grind (arith, ne)

module _ (number : ℕ) (locks : List Lock) (rising : IsRising 0 locks) where
  comparisons_rise : IsNonDecreasingBy (λ lock. ordering_index (nat_cmp lock.number number)) locks
  comparisons_rise i j d le lt = index_rises number _ _ (rises 0 locks i j d rising le lt)

  pub placed : (r : Result ℕ ℕ) → IsSearchInRange r (length locks) → IsBinarySearchResult (λ lock. nat_cmp lock.number number) locks r
      → MatchOption (result_ok r) (AllByRecursion (HasNot number) locks) (λ i. (i < length locks) × HoldsAt (λ lock. lock.number ≡ number) locks i)
  placed (Ok i) in_range equal = (in_range, λ d. ranked _ number _ (sym (equal d)))
  placed (Err i) in_range parted = all_of (HasNot number) locks (λ k d lt.
      let before : k < i → (get_or locks k d).number < number = λ below. ranked _ number _ (sym ((parted comparisons_rise).0 k d (omega arith) below)) in
      let behind : i ≤ k → number < (get_or locks k d).number = λ above. ranked _ number _ (sym ((parted comparisons_rise).1 k d above lt)) in
      apart _ number (λ same. grind (arith, before, behind, same)))
