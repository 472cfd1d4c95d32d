-- A value that stands as it is.
use Rattle.std.proofs.Common.{◌≡◌, ℕ, ◌-◌, ◌≤◌, Bool, true, false, eqb, not, ◌&&◌, List, [], ◌∷◌, length, map, Ok, refl, sym, ap, subst, ◌∙◌, arith}
use Rattle.std.specs.Prelude.{◌==◌, encode_utf8_all}
use Rattle.std.specs.List.{list_any, prefix_len}
use Rattle.std.proofs.lemmas.List.{length-drop}
use Rattle.doc_read.specs.declared.fault.DocFault.TheVariants.{Malformed}
use Rattle.doc_read.specs.declared.lex.Class.TheVariants.{Value}
use Rattle.doc_read.specs.Chars.{holds, split_front}
use Rattle.doc_read.specs.Lex.{part, plain, value_turn, inside_value}
use Rattle.doc_read.proofs.Fronts.{skip_end, skip_turn}
use Rattle.doc_read.proofs.Marks.{same_eqb}
use Rattle.doc_read.proofs.Text.{plain_stay}
use Rattle.doc_read.proofs.Untils.{until_next, until_stops}

none_of : (a b c : Bool) → (not a && not b && not c) ≡ true → (a ≡ false) × (b ≡ false) × (c ≡ false)
none_of false false false h = (refl, refl, refl)
none_of true b c h = absurd cc
none_of false true c h = absurd cc
none_of false false true h = absurd cc

-- the turn that reads the front
front_turn : (q c : ℕ) (cs : List ℕ) → holds (Value q) c ≡ true
    → value_turn q (part [] (c ∷ cs)) ≡ Ok (false, part (encode_utf8_all (map plain (split_front (Value q) (c ∷ cs)).0)) (split_front (Value q) (c ∷ cs)).1)
unfolding value_turn
front_turn q c cs h =
    let p = none_of (eqb c q) (eqb c 60) (eqb c 38) h in
    rw (p.0, p.1, p.2) refl

-- the turn that reads the quote
quote_turn : (q : ℕ) (text rest : List ℕ) → value_turn q (part text (q ∷ rest)) ≡ Ok (true, part text rest)
unfolding value_turn
quote_turn q text rest = rw (same_eqb q) refl

shorter : (q : ℕ) (cs : List ℕ) → length (split_front (Value q) cs).1 ≤ length cs
unfolding split_front
shorter q cs = omega (arith, length-drop (prefix_len (holds (Value q)) cs) cs)

no_front : (q c : ℕ) (cs : List ℕ) → holds (Value q) c ≡ false → (split_front (Value q) (c ∷ cs)).0 ≡ []
unfolding split_front
no_front q c cs h = rw h refl

nothing : (q : ℕ) (rest : List ℕ) → (split_front (Value q) []).1 ≡ q ∷ rest → ⊥
unfolding split_front
nothing q rest e = absurd cc

-- before its quote it has one front, in which no character stands for another
pub value_is_front : (q : ℕ) (cs rest : List ℕ) → (split_front (Value q) cs).1 ≡ q ∷ rest
    → list_any (λ c. c == 9) (split_front (Value q) cs).0 ≡ false → list_any (λ c. c == 10) (split_front (Value q) cs).0 ≡ false
    → inside_value q cs ≡ Ok (part (encode_utf8_all (split_front (Value q) cs).0) rest)
value_is_front q [] rest stops tabs feeds = absurd (nothing q rest stops)
value_is_front q (c ∷ cs) rest stops tabs feeds = go (holds (Value q) c) refl
  where
    front : List ℕ
    front = (split_front (Value q) (c ∷ cs)).0

    text : List ℕ
    text = encode_utf8_all (map plain front)

    go : (b : Bool) → holds (Value q) c ≡ b → inside_value q (c ∷ cs) ≡ Ok (part (encode_utf8_all front) rest)
    go true h =
        let step : value_turn q (part [] (c ∷ cs)) ≡ Ok (false, part text (q ∷ rest)) = front_turn q c cs h ∙ ap (λ x. Ok (false, part text x)) stops in
        let left : length (q ∷ rest) ≤ length cs = subst (λ (x : List ℕ). length x ≤ length cs) (skip_turn (Value q) c (c ∷ cs) cs h refl ∙ stops) (shorter q cs) in
        until_next Malformed (value_turn q) (length (c ∷ cs)) (part [] (c ∷ cs)) (part text (q ∷ rest)) (omega arith) step
        ∙ until_stops Malformed (value_turn q) (length (c ∷ cs) - 1) (part text (q ∷ rest)) (part text rest) (omega (arith, left)) (quote_turn q text rest)
        ∙ ap (λ x. Ok (part (encode_utf8_all x) rest)) (plain_stay front tabs feeds)
    go false h =
        let is : c ∷ cs ≡ q ∷ rest = sym (skip_end (Value q) (c ∷ cs) h) ∙ stops in
        ap (inside_value q) is ∙ until_stops Malformed (value_turn q) (length (q ∷ rest)) (part [] (q ∷ rest)) (part [] rest) (omega arith) (quote_turn q [] rest)
        ∙ ap (λ x. Ok (part (encode_utf8_all x) rest)) (sym (no_front q c cs h))
