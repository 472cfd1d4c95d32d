-- The map by feature, a feature at a time.
use Rattle.std.proofs.Common.{◌≡◌, ℕ, ◌+◌, ◌<◌, Bool, true, false, cond, ◌&&◌, ◌||◌, List, [], ◌∷◌, length, get_or, take, Option, Some, None, refl, ap, subst, ◌∙◌, arith}
use Rattle.std.specs.Prelude.{zero, suc, if◌then◌else◌}
use Rattle.feature_values.specs.declared.feature.Rid.{Rid}
use Rattle.lock_table.specs.Held.{is_same, is_among}
use Rattle.lock_table.specs.Kept.{is_number, given_to, freed_of}

pub same_is : (a b : Rid) → is_same a b ≡ true → a ≡ b
same_is a b e =
    let kind : a.kind ≡ b.kind = grind (arith, e) in
    let number : a.number ≡ b.number = grind (arith, e) in
    let with_both : ℕ → ℕ → Rid = λ k n. record { kind = k; number = n } in
    ap (λ (k : ℕ). with_both k a.number) kind ∙ ap (λ (n : ℕ). with_both b.kind n) number

if_one : {X : Type 0} (b : Bool) (x y : X) → cond b x y ≡ (if b || false then x else y)
if_one true x y = refl
if_one false x y = refl

pub put_one : (number : ℕ) (holds : Rid → Option ℕ) (g f : Rid) → cond (is_same g f) (Some number) (holds f) ≡ given_to number (g ∷ []) holds f
put_one number holds g f = if_one (is_same g f) (Some number) (holds f)

taken_at : (number : ℕ) (holds : Rid → Option ℕ) (g f : Rid) (b : Bool) → is_same g f ≡ b → is_number number (holds g) ≡ true → cond b None (holds f) ≡ (if (b || false) && is_number number (holds f) then None else holds f)
taken_at number holds g f true e h = rw (subst (λ (x : Rid). is_number number (holds x) ≡ true) (same_is g f e) h) refl
taken_at number holds g f false e h = refl

pub taken : (number : ℕ) (holds : Rid → Option ℕ) (g f : Rid) → is_number number (holds g) ≡ true → cond (is_same g f) None (holds f) ≡ freed_of number (g ∷ []) holds f
taken number holds g f h = taken_at number holds g f (is_same g f) refl h

or_at_end : (a b : Bool) → (a || false) ≡ a
or_at_end true b = refl
or_at_end false b = refl

or_assoc : (a b c : Bool) → (a || (b || c)) ≡ ((a || b) || c)
or_assoc true b c = refl
or_assoc false b c = refl

among_more : (f : Rid) (xs : List Rid) (i : ℕ) (d : Rid) → i < length xs → is_among f (take (i + 1) xs) ≡ (is_among f (take i xs) || is_same (get_or xs i d) f)
among_more f [] i d lt = absurd (omega (arith, lt))
among_more f (x ∷ xs) zero d lt = or_at_end (is_same x f) true
among_more f (x ∷ xs) (suc i) d lt = let one : suc i + 1 ≡ suc (i + 1) = omega arith in rw one (rw (among_more f xs i d (omega (arith, lt))) (or_assoc (is_same x f) _ _))

given_step : (a b : Bool) (s o : Option ℕ) → (if b || false then s else (if a then s else o)) ≡ (if a || b then s else o)
given_step true true s o = refl
given_step true false s o = refl
given_step false true s o = refl
given_step false false s o = refl

pub given_more : (number : ℕ) (holds now next : Rid → Option ℕ) (xs : List Rid) (i : ℕ) (d f : Rid) → i < length xs → now f ≡ given_to number (take i xs) holds f → next f ≡ given_to number (get_or xs i d ∷ []) now f → next f ≡ given_to number (take (i + 1) xs) holds f
given_more number holds now next xs i d f lt so_far step =
    step ∙ rw (so_far, among_more f xs i d lt) (given_step (is_among f (take i xs)) (is_same (get_or xs i d) f) (Some number) (holds f))

freed_step : (a b k : Bool) (n : ℕ) (o : Option ℕ) → is_number n o ≡ k → (if (b || false) && is_number n (if a && is_number n o then None else o) then None else (if a && is_number n o then None else o)) ≡ (if (a || b) && is_number n o then None else o)
freed_step false false k n o e = refl
freed_step false true k n o e = refl
freed_step true false k n o e = refl
freed_step true true true n o e = rw e refl
freed_step true true false n o e = rw e (rw e refl)

pub freed_more : (number : ℕ) (holds now next : Rid → Option ℕ) (xs : List Rid) (i : ℕ) (d f : Rid) → i < length xs → now f ≡ freed_of number (take i xs) holds f → next f ≡ freed_of number (get_or xs i d ∷ []) now f → next f ≡ freed_of number (take (i + 1) xs) holds f
freed_more number holds now next xs i d f lt so_far step =
    step ∙ rw (so_far, among_more f xs i d lt) (freed_step (is_among f (take i xs)) (is_same (get_or xs i d) f) (is_number number (holds f)) number (holds f) refl)
