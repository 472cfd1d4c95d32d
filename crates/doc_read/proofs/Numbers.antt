-- Numbers that are cut at the first that is no character.
use Rattle.std.proofs.Common.{le-mul_of_pos_right, ◌≡◌, ℕ, ◌+◌, ◌*◌, ◌<◌, ◌≤◌, inl, inr, List, [], ◌∷◌, true, false, refl, sym, ap, ◌∙◌, arith}
use Rattle.std.specs.Prelude.{min}
use Rattle.std.proofs.lemmas.Bool.{cases_lt}
use Rattle.std.proofs.lemmas.Bool.Decides.{nat_tests}
use Rattle.doc_tree.specs.Characters.{is_allowed}
use Rattle.doc_read.specs.Lex.{digit, number}

-- a number that is no character stays one
stays : (base v d : ℕ) → 0 < base → min (min v 0x110000 * base + d) 0x110000 ≡ min (v * base + d) 0x110000
stays base v d some =
    let more : v ≤ v * base = le-mul_of_pos_right v some in
    let most : 0x110000 ≤ 0x110000 * base = le-mul_of_pos_right 0x110000 some in
    elim (cases_lt v 0x110000) [
      | inl lt ↦ let is : min v 0x110000 ≡ v = omega arith in rw is refl
      | inr le ↦ let is : min v 0x110000 ≡ 0x110000 = omega arith in rw is (omega arith)
    ]

capped : (base v : ℕ) (cs : List ℕ) → 0 < base → min (number base (min v 0x110000) cs) 0x110000 ≡ min (number base v cs) 0x110000
unfolding number
capped base v [] some = omega arith
capped base v (c ∷ cs) some =
    sym (capped base (min v 0x110000 * base + digit c) cs some)
    ∙ ap (λ x. min (number base x cs) 0x110000) (stays base v (digit c) some)
    ∙ capped base (v * base + digit c) cs some

pub number_turn : (base v c : ℕ) (cs rest : List ℕ) → 0 < base → cs ≡ c ∷ rest → min (number base (min (v * base + digit c) 0x110000) rest) 0x110000 ≡ min (number base v cs) 0x110000
unfolding number
number_turn base v c cs rest some is = capped base (v * base + digit c) rest some ∙ ap (λ ys. min (number base v ys) 0x110000) (sym is)

pub number_end : (base v : ℕ) (cs : List ℕ) → cs ≡ [] → number base v cs ≡ v
unfolding number
number_end base v cs is = rw is refl

pub allowed_capped : (v : ℕ) → is_allowed (min v 0x110000) ≡ is_allowed v
allowed_capped v =
    elim (cases_lt v 0x110000) [
      | inl lt ↦ let is : min v 0x110000 ≡ v = omega arith in rw is refl
      | inr le ↦ let is : min v 0x110000 ≡ 0x110000 = omega arith in rw is (sym (too_great v le))
    ]
  where
    too_great : (v : ℕ) → 0x110000 ≤ v → is_allowed v ≡ false
    too_great v le = grind (arith, nat_tests)

pub capped_is : (v : ℕ) → is_allowed v ≡ true → min v 0x110000 ≡ v
capped_is v h = grind (arith, nat_tests)
