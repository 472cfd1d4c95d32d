-- Readers: one turn of a loop, and what a reading that did not fail read, for any type of faults.
use Rattle.std.proofs.Common.{◌≡◌, Bool, true, false, ◌⊎◌, inl, inr, ℕ, suc, ◌+◌, ◌-◌, ◌<◌, ◌≤◌, cond, List, length, get_or, drop, map, Result, Ok, Err, refl, sym, ap, ◌∙◌, arith}
use Rattle.std.proofs.lemmas.List.{at_drop_more, at_drop_all}
use Rattle.wfs_ends.specs.Read.{◌>>=◌, FailsBut, each, until}

pub each_turn : {E A B X : Type 0} (step : A → B → Result A E) (view : X → B) (found : A) (xs : List X) (i : ℕ) (x : X) → i < length xs → x ≡ get_or xs i x → each step found (map view (drop i xs)) ≡ (step found (view x) >>= λ more. each step more (map view (drop (i + 1) xs)))
unfolding each
each_turn step view found xs i x lt is = at_drop_more (λ ys. each step found (map view ys)) xs i x lt ∙ ap (λ y. step found (view y) >>= λ more. each step more (map view (drop (i + 1) xs))) (sym is)

pub each_end : {E A B X : Type 0} (step : A → B → Result A E) (view : X → B) (found : A) (xs : List X) (i : ℕ) → length xs ≤ i → each step found (map view (drop i xs)) ≡ Ok found
unfolding each
each_end step view found xs i le = at_drop_all (λ ys. each step found (map view ys)) xs i le

pub each_goes_on : {E A B X : Type 0} (step : A → B → Result A E) (view : X → B) (found more : A) (xs : List X) (i : ℕ) (x : X) (total : Result A E) → i < length xs → x ≡ get_or xs i x → step found (view x) ≡ Ok more → each step found (map view (drop i xs)) ≡ total → each step more (map view (drop (i + 1) xs)) ≡ total
each_goes_on step view found more xs i x total lt is now so_far = sym (each_turn step view found xs i x lt is ∙ rw now refl) ∙ so_far

pub each_fails : {E A B X : Type 0} (step : A → B → Result A E) (view : X → B) (found : A) (xs : List X) (i : ℕ) (x : X) (total : Result A E) (memory e : E) → i < length xs → x ≡ get_or xs i x → FailsBut memory e (step found (view x)) → each step found (map view (drop i xs)) ≡ total → FailsBut memory e total
each_fails step view found xs i x total memory e lt is now so_far = λ other. sym so_far ∙ each_turn step view found xs i x lt is ∙ rw (now other) refl

pub until_turn : {E A : Type 0} (out : E) (step : A → Result (Bool × A) E) (n i : ℕ) (s : A) → i < n → until out step (n - i) s ≡ (step s >>= λ t. cond t.0 (Ok t.1) (until out step (n - (i + 1)) t.1))
unfolding until
until_turn out step n i s lt =
    let k : n - i ≡ suc (n - (i + 1)) = omega arith in
    rw k refl

pub until_end : {E A : Type 0} (out : E) (step : A → Result (Bool × A) E) (n i : ℕ) (s : A) → n ≤ i → until out step (n - i) s ≡ Err out
unfolding until
until_end out step n i s le =
    let k : n - i ≡ 0 = omega arith in
    rw k refl

-- ---- steps that did not fail

pub bind_ok : {E A B : Type 0} (r : Result A E) (f : A → Result B E) (y : B) → (r >>= f) ≡ Ok y → (x : A) × (r ≡ Ok x) × (f x ≡ Ok y)
bind_ok (Ok x) f y e = (x, refl, e)
bind_ok (Err d) f y e = absurd cc

pub if_ok : {E A : Type 0} (b : Bool) (r : Result A E) (d : E) (y : A) → cond b r (Err d) ≡ Ok y → (b ≡ true) × (r ≡ Ok y)
if_ok true r d y e = (refl, e)
if_ok false r d y e = absurd cc

pub chosen : {A : Type 0} (b : Bool) (x y z : A) → cond b x y ≡ z → ((b ≡ true) × (x ≡ z)) ⊎ ((b ≡ false) × (y ≡ z))
chosen true x y z e = inl (refl, e)
chosen false x y z e = inr (refl, e)

pub ok_is : (E : Type 0) {A : Type 0} (x y : A) → (let a : Result A E = Ok x in a) ≡ Ok y → x ≡ y
ok_is E x y e = cc
