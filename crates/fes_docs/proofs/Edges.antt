-- Texts without their first or their last byte.
use Rattle.std.proofs.Common.{◌≡◌, ◌≢◌, ℕ, Bool, true, false, List, [], ◌∷◌, ◌++◌, Option, Some, None, MatchOption, refl, sym, ap, ◌∙◌, arith}
use Rattle.std.specs.Prelude.{◌==◌, if◌then◌else◌, option_map}
use Rattle.std.specs.Option.{option_copied}
use Rattle.std.specs.Borrow.{Bor}
use Rattle.fes_docs.specs.Uses.{behind_first, before_last}

same_byte : (c : ℕ) → (c == c) ≡ true
same_byte c = grind arith

is_byte : (b c : ℕ) → (b == c) ≡ true → b ≡ c
is_byte b c e = grind (arith, e)

-- ---- the first

first_found : (c : ℕ) (bs : List ℕ) → behind_first c (c ∷ bs) ≡ Some bs
first_found c bs = rw (same_byte c) refl

first_missing : (c : ℕ) (bs : List ℕ) → ((rest : List ℕ) → bs ≢ c ∷ rest) → behind_first c bs ≡ None
first_missing c [] h = refl
first_missing c (b ∷ bs) h = by (b == c) refl
  where
    by : (t : Bool) → (b == c) ≡ t → behind_first c (b ∷ bs) ≡ None
    by true e = absurd (h bs (ap (λ x. x ∷ bs) (is_byte b c e)))
    by false e = rw e refl

pub first_is : (c : ℕ) (bs : List ℕ) (r : Option (Bor (List ℕ))) → MatchOption r ((rest : List ℕ) → bs ≢ c ∷ rest) (λ x. bs ≡ c ∷ x.now) → option_copied r ≡ behind_first c bs
first_is c bs (Some x) e = sym (ap (behind_first c) e ∙ first_found c x.now)
first_is c bs None h = sym (first_missing c bs h)

-- ---- the last

pub last_found : (c : ℕ) (bs : List ℕ) → before_last c (bs ++ c ∷ []) ≡ Some bs
last_found c [] = rw (same_byte c) refl
last_found c (b ∷ []) = rw (same_byte c) refl
last_found c (b ∷ d ∷ ds) = ap (option_map (λ t. b ∷ t)) (last_found c (d ∷ ds))

abbrev Ends : ℕ → List ℕ → Type 0
Ends c bs = (front : List ℕ) × (bs ≡ front ++ c ∷ [])

one_ends : (c b : ℕ) (t : Bool) (xs : List ℕ) → (b == c) ≡ t → (if t then Some [] else None) ≡ Some xs → Ends c (b ∷ [])
one_ends c b true xs e f = ([], ap (λ x. x ∷ []) (is_byte b c e))
one_ends c b false xs e f = absurd cc

mapped : (b : ℕ) (r : Option (List ℕ)) (xs : List ℕ) → option_map (λ t. b ∷ t) r ≡ Some xs → (ys : List ℕ) × (r ≡ Some ys)
mapped b (Some ys) xs e = (ys, refl)
mapped b None xs e = absurd cc

last_ends : (c : ℕ) (bs xs : List ℕ) → before_last c bs ≡ Some xs → Ends c bs
last_ends c [] xs e = absurd cc
last_ends c (b ∷ []) xs e = one_ends c b (b == c) xs refl e
last_ends c (b ∷ d ∷ ds) xs e =
    let m = mapped b (before_last c (d ∷ ds)) xs e in
    let rest = last_ends c (d ∷ ds) m.0 m.1 in
    (b ∷ rest.0, ap (λ t. b ∷ t) rest.1)

last_missing : (c : ℕ) (bs : List ℕ) → ((front : List ℕ) → bs ≢ front ++ c ∷ []) → (r : Option (List ℕ)) → before_last c bs ≡ r → None ≡ before_last c bs
last_missing c bs h None e = sym e
last_missing c bs h (Some xs) e = absurd (let ends = last_ends c bs xs e in h ends.0 ends.1)

pub last_is : (c : ℕ) (bs : List ℕ) (r : Option (Bor (List ℕ))) → MatchOption r ((front : List ℕ) → bs ≢ front ++ c ∷ []) (λ x. bs ≡ x.now ++ c ∷ []) → option_copied r ≡ before_last c bs
last_is c bs (Some x) e = sym (ap (before_last c) e ∙ last_found c x.now)
last_is c bs None h = last_missing c bs h (before_last c bs) refl
