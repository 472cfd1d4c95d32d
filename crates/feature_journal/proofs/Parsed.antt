-- What is spelled so is read so.
use Rattle.std.proofs.Common.{◌≡◌, ℕ, zero, suc, ◌+◌, ◌<◌, List, [], ◌∷◌, ◌++◌, length, take, drop, refl, sym, ◌∙◌, ap, arith, append_assoc, length-append, Option, Some, nat_lt, ◌==◌, false}
use Rattle.std.proofs.lemmas.Bool.Decides.{nat_tests}
use Rattle.std.proofs.lemmas.List.{take_at, drop_at}
use Rattle.std.proofs.lemmas.Nat.{from_be_bytes-to_be_bytes_4}
use Rattle.std.specs.List.{AllByRecursion, flat_map}
use Rattle.std.specs.Int.{to_be_bytes, from_be_bytes, w32}
use Rattle.feature_journal.specs.Side.{framed, opened}
use Rattle.feature_journal.specs.Whole.{Fits}
use Rattle.feature_journal.specs.Recover.{body_with, body_at, records_at, and_then}

body_sized : (size body rest : List ℕ) → length size ≡ 4 → 0 < length rest → body_with (length body) (size ++ (body ++ rest)) ≡ Some (body, rest)
unfolding body_with
body_sized size body rest four some =
    let test : nat_lt (length (size ++ (body ++ rest))) (5 + length body) ≡ false = grind (arith, nat_tests, length-append size (body ++ rest), length-append body rest, four, some) in
    let from : take (length body) (drop 4 (size ++ (body ++ rest))) ≡ body = ap (take (length body)) (drop_at size (body ++ rest) 4 four) ∙ take_at body rest (length body) refl in
    let behind : drop (4 + length body) (size ++ (body ++ rest)) ≡ rest =
    ap (drop (4 + length body)) (sym (append_assoc size body rest)) ∙ drop_at (size ++ body) rest (4 + length body) (omega (arith, length-append size body, four)) in
    rw (test, from, behind) refl

body_of : (size body rest : List ℕ) → length size ≡ 4 → from_be_bytes w32 size ≡ length body → 0 < length rest → body_at (size ++ (body ++ rest)) ≡ Some (body, rest)
unfolding body_at
body_of size body rest four is some =
    ap (λ (n : ℕ). body_with n (size ++ (body ++ rest))) (ap (from_be_bytes w32) (take_at size (body ++ rest) 4 four) ∙ is) ∙ body_sized size body rest four some

pub body_again : (body rest : List ℕ) → Fits body → 0 < length rest → body_at (framed body ++ rest) ≡ Some (body, rest)
unfolding framed
body_again body rest fits some =
    let size = to_be_bytes w32 (length body) in
    ap body_at (append_assoc size body rest) ∙ body_of size body rest refl (from_be_bytes-to_be_bytes_4 (length body) fits) some

-- what is spelled so is read so
pub records_again : (bodies : List (List ℕ)) (gate : ℕ) (rest : List ℕ) (n : ℕ) → AllByRecursion Fits bodies → (gate ≡ 1 → ⊥) → length bodies < n → records_at n (flat_map opened bodies ++ gate ∷ rest) ≡ (bodies, gate ∷ rest)
unfolding records_at
records_again bodies gate rest zero all shut less = absurd (omega arith)
records_again [] gate rest (suc n) all shut less = let test : (gate == 1) ≡ false = grind (arith, nat_tests) in rw test refl
records_again (body ∷ bodies) gate rest (suc n) all shut less =
    let more = flat_map opened bodies ++ gate ∷ rest in
    let first : body_at (framed body ++ more) ≡ Some (body, more) = body_again body more all.0 (omega (arith, length-append (flat_map opened bodies) (gate ∷ rest))) in
    let others = records_again bodies gate rest n all.1 shut (omega arith) in
    ap (λ (l : List ℕ). and_then (records_at n) (1 ∷ l) (body_at l)) (append_assoc (framed body) (flat_map opened bodies) (gate ∷ rest))
    ∙ ap (λ (o : Option (List ℕ × List ℕ)). and_then (records_at n) (1 ∷ (framed body ++ more)) o) first
    ∙ ap (λ (y : List (List ℕ) × List ℕ). (body ∷ y.0, y.1)) others
