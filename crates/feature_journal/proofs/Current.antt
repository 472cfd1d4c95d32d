-- Which side is current, where two sides say a list.
use Rattle.std.proofs.Common.{◌≡◌, ℕ, ◌<◌, ◌≤◌, ◌^◌, List, [], ◌∷◌, ◌++◌, length, refl, ◌∙◌, ap, arith, append_assoc, length-append, Some, None, nat_lt, ◌==◌, ◌&&◌, Bool, true, false, not, cond}
use Rattle.std.proofs.lemmas.Bool.Decides.{nat_tests}
use Rattle.std.proofs.lemmas.Nat.{from_be_bytes-to_be_bytes_8}
use Rattle.std.specs.List.{flat_map}
use Rattle.std.specs.Int.{to_be_bytes, w64}
use Rattle.feature_journal.specs.Side.{side, mark, opened, behind}
use Rattle.feature_journal.specs.Whole.{Harmless, Marked, Ends, Says}
use Rattle.feature_journal.specs.Whole.Harmless.{short, shut, older, tied, equal}
use Rattle.feature_journal.specs.Whole.Ends.{closed, tail}
use Rattle.feature_journal.specs.Recover.{is_able, generation_of, same_bytes, current_of}

-- a byte, the mark, the version and a generation, and at least one byte more
abbrev pub headed : ℕ → ℕ → List ℕ → List ℕ
headed gate generation rest = gate ∷ (mark ++ to_be_bytes w64 generation ++ rest)

pub able_headed : (generation : ℕ) (rest : List ℕ) → 0 < length rest → is_able (headed 1 generation rest) ≡ true
unfolding is_able same_bytes
able_headed generation rest some = let long : nat_lt 16 (length (headed 1 generation rest)) ≡ true = grind (arith, nat_tests) in rw long refl

pub generation_headed : (gate generation : ℕ) (rest : List ℕ) → generation < 2 ^ 64 → generation_of (headed gate generation rest) ≡ generation
unfolding generation_of
generation_headed gate generation rest fits = from_be_bytes-to_be_bytes_8 generation fits

and_false : (x y : Bool) → ((x && false) && y) ≡ false
and_false true y = refl
and_false false y = refl

pub unable : (gate : ℕ) (rest : List ℕ) → (gate ≡ 1 → ⊥) → is_able (gate ∷ rest) ≡ false
unfolding is_able
unable gate rest not_open = let test : (gate == 1) ≡ false = grind (arith, nat_tests) in rw test (and_false _ _)

pub unable_short : (c : List ℕ) → length c < 17 → is_able c ≡ false
unfolding is_able
unable_short c less = let test : nat_lt 16 (length c) ≡ false = grind (arith, nat_tests) in rw test refl

generation_marked : (own : ℕ) (c : List ℕ) → Marked own c → own < 2 ^ 64 → generation_of c ≡ own
generation_marked own c m fits = ap generation_of m.is.is ∙ generation_headed m.gate own (m.first ∷ m.is.rest) fits

-- the other side is no greater
not_over : (x : Bool) (m n : ℕ) → n ≤ m → (x && nat_lt m n) ≡ false
not_over true m n le = grind (arith, nat_tests)
not_over false m n le = refl

below_a : (generation : ℕ) (lists : List (List (List ℕ))) (b : List ℕ) → generation < 2 ^ 64 → Harmless true generation lists b → (is_able b && nat_lt generation (generation_of b)) ≡ false
below_a generation lists b fits (short less) = rw (unable_short b less) refl
below_a generation lists b fits (shut begins) = ap (λ (x : Bool). x && nat_lt generation (generation_of b)) (ap is_able begins.is ∙ unable 0 begins.rest (omega arith))
below_a generation lists b fits (older own m less) = not_over (is_able b) generation (generation_of b) (omega (arith, generation_marked own b m (omega (arith, less, fits))))
below_a generation lists b fits (tied is m) = not_over (is_able b) generation (generation_of b) (omega (arith, generation_marked generation b m fits))
below_a generation lists b fits (equal gate own bodies not_open l one begins) =
    ap (λ (x : Bool). x && nat_lt generation (generation_of b)) (ap is_able begins.is ∙ unable gate _ not_open)

below_b : (generation : ℕ) (lists : List (List (List ℕ))) (a : List ℕ) → generation < 2 ^ 64 → Harmless false generation lists a → is_able a ≡ true → nat_lt (generation_of a) generation ≡ true
below_b generation lists a fits (short less) able = absurd (cc (unable_short a less))
below_b generation lists a fits (shut begins) able = let e : is_able a ≡ false = ap is_able begins.is ∙ unable 0 begins.rest (omega arith) in absurd cc
below_b generation lists a fits (older own m less) able = let e : generation_of a ≡ own = generation_marked own a m (omega (arith, less, fits)) in grind (arith, nat_tests)
below_b generation lists a fits (tied is m) able = absurd cc
below_b generation lists a fits (equal gate own bodies not_open l one begins) able = let e : is_able a ≡ false = ap is_able begins.is ∙ unable gate _ not_open in absurd cc

-- what a side that ends says at its head
pub record Head (generation : ℕ) (c : List ℕ) : Type 0 where
  pub rest : List ℕ
  pub some : 0 < length rest
  pub is : c ≡ headed 1 generation rest

pub head : (generation : ℕ) (bodies : List (List ℕ)) (c : List ℕ) → Ends (side generation bodies) c → Head generation c
unfolding side
head generation bodies c (closed b) = record { rest = _; some = omega (arith, length-append (flat_map opened bodies) (0 ∷ b.rest)); is = b.is ∙ append_assoc (side generation bodies) (0 ∷ []) b.rest }
head generation bodies c (tail gate body not_open fits b) = record { rest = _; some = omega (arith, length-append (flat_map opened bodies) (gate ∷ (behind body ++ b.rest))); is = b.is ∙ append_assoc (side generation bodies) (gate ∷ behind body) b.rest }

current : (second : Bool) (generation : ℕ) (lists : List (List (List ℕ))) (bodies : List (List ℕ)) (a b : List ℕ) → generation < 2 ^ 64 → Ends (side generation bodies) (cond second b a) → Harmless (not second) generation lists (cond second a b) → current_of a b ≡ Some second
unfolding current_of
current false generation lists bodies a b fits ends beside =
    let h = head generation bodies a ends in
    let able : is_able a ≡ true = ap is_able h.is ∙ able_headed generation h.rest h.some in
    let own : generation_of a ≡ generation = ap generation_of h.is ∙ generation_headed 1 generation h.rest fits in
    let less : (is_able b && nat_lt (generation_of a) (generation_of b)) ≡ false = ap (λ (n : ℕ). is_able b && nat_lt n (generation_of b)) own ∙ below_a generation lists b fits beside in
    rw (able, less) refl
current true generation lists bodies a b fits ends beside =
    let h = head generation bodies b ends in
    let able : is_able b ≡ true = ap is_able h.is ∙ able_headed generation h.rest h.some in
    let own : generation_of b ≡ generation = ap generation_of h.is ∙ generation_headed 1 generation h.rest fits in
    by_a (is_able a) refl able own
  where
    by_a : (x : Bool) → is_able a ≡ x → is_able b ≡ true → generation_of b ≡ generation → cond x (cond (is_able b && nat_lt (generation_of a) (generation_of b)) (Some true) (Some false)) (cond (is_able b) (Some true) None) ≡ Some true
    by_a true e able own =
        let more : nat_lt (generation_of a) (generation_of b) ≡ true = ap (nat_lt (generation_of a)) own ∙ below_b generation lists a fits beside e in
        rw (able, more) refl
    by_a false e able own = rw able refl

-- the side that is said to be current is the one that Recover finds
pub says_current : (lists : List (List (List ℕ))) (a b : List ℕ) (s : Says lists a b) → current_of a b ≡ Some s.second
says_current lists a b s = current s.second s.generation lists s.bodies a b s.list.generation_fits s.ends s.beside
