-- The longest front of a class.
use Rattle.std.proofs.Common.{◌≡◌, ℕ, suc, ◌+◌, Bool, true, false, List, [], ◌∷◌, ◌++◌, length, take, refl, sym, ap, ◌∙◌, arith}
use Rattle.std.specs.List.{prefix_len, list_all}
use Rattle.std.proofs.lemmas.List.{append_cancel_right, take-append-drop, take_at, drop_at}
pub use Rattle.doc_tree.proofs.Escapes.{both}
use Rattle.doc_read.specs.declared.lex.Class.{Class}
use Rattle.doc_read.specs.Chars.{holds, split_front, starts}

-- one more character of the class
pub skip_turn : (class : Class) (c : ℕ) (cs rest : List ℕ) → holds class c ≡ true → cs ≡ c ∷ rest → (split_front class rest).1 ≡ (split_front class cs).1
unfolding split_front
skip_turn class c cs rest is whole =
    let k : 1 + prefix_len (holds class) rest ≡ suc (prefix_len (holds class) rest) = omega arith in
    rw (whole, is, k) refl

pub skip_end : (class : Class) (cs : List ℕ) → starts class cs ≡ false → (split_front class cs).1 ≡ cs
unfolding split_front
skip_end class [] stops = refl
skip_end class (c ∷ cs) stops = rw stops refl

-- a front is known by what comes after it
pub split_front_is : (class : Class) (cs front rest : List ℕ) → cs ≡ front ++ rest → rest ≡ (split_front class cs).1 → (front, rest) ≡ split_front class cs
unfolding split_front
split_front_is class cs front rest whole is =
    let n = prefix_len (holds class) cs in
    let same : front ++ rest ≡ take n cs ++ rest = sym whole ∙ sym (take-append-drop n cs) ∙ ap (λ x. take n cs ++ x) (sym is) in
    rw (← is) (ap (λ x. (x, rest)) (append_cancel_right front (take n cs) rest same))

-- ---- what a front is, and when it is found again

pub false_unless : (b : Bool) → (b ≡ true → ⊥) → b ≡ false
false_unless true h = absurd (h refl)
false_unless false h = refl

prefix_len_again : (class : Class) (a b : List ℕ) → list_all (holds class) a ≡ true → starts class b ≡ false → prefix_len (holds class) (a ++ b) ≡ length a
prefix_len_again class [] [] all stops = refl
prefix_len_again class [] (c ∷ cs) all stops = rw stops refl
prefix_len_again class (c ∷ cs) b all stops =
    let p = both (holds class c) (list_all (holds class) cs) all in
    rw p.0 (omega (arith, prefix_len_again class cs b p.1 stops))

pub split_again : (class : Class) (a b : List ℕ) → list_all (holds class) a ≡ true → starts class b ≡ false → split_front class (a ++ b) ≡ (a, b)
unfolding split_front
split_again class a b all stops =
    rw (prefix_len_again class a b all stops, take_at a b (length a) refl, drop_at a b (length a) refl) refl
