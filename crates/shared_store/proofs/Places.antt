-- Beginnings of lists, and the place of an entry that a seat adds.
use Rattle.std.proofs.Common.{◌≡◌, ℕ, suc, ◌+◌, ◌==◌, Bool, true, false, cond, List, [], ◌∷◌, ◌++◌, length, sym, ap, ◌∙◌, arith, append_assoc, eq-eqb}
use mathlib.Core.List.{IsPrefix}
use Rattle.turnstile_core.specs.Places.{places_from}

module _ {A : Type 0} where
  pub prefix_longer : (xs ys zs : List A) → IsPrefix xs ys → IsPrefix xs (ys ++ zs)
  prefix_longer xs ys zs p = (p.0 ++ zs, sym (append_assoc xs p.0 zs) ∙ ap (λ w. w ++ zs) p.1)

own_step : (b : Bool) (i : ℕ) (a c : List ℕ) (k k' : ℕ) → a ≡ c ++ k ∷ [] → k ≡ k' → cond b (i ∷ a) a ≡ cond b (i ∷ c) c ++ k' ∷ []
own_step true i a c k k' e same = ap (λ (l : List ℕ). i ∷ l) (e ∙ ap (λ (z : ℕ). c ++ z ∷ []) same)
own_step false i a c k k' e same = e ∙ ap (λ (z : ℕ). c ++ z ∷ []) same

module _ {E : Type 0} (seat_of : E → ℕ) where
  -- the places grow where the entry is the seat's own
  pub places_own : (n i : ℕ) (es : List E) (e : E) → seat_of e ≡ n → places_from seat_of n i (es ++ e ∷ []) ≡ places_from seat_of n i es ++ (i + length es) ∷ []
  places_own n i [] e own = ap (λ (b : Bool). cond b (i ∷ []) []) (eq-eqb (seat_of e) n own) ∙ ap (λ (z : ℕ). z ∷ []) (let z : i ≡ i + 0 = omega arith in z)
  places_own n i (x ∷ xs) e own = own_step (seat_of x == n) i _ _ (suc i + length xs) (i + suc (length xs)) (places_own n (suc i) xs e own) (omega arith)
