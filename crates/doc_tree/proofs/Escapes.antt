-- Which characters a text holds, by its bytes, and what is written for them.
use Rattle.std.proofs.Common.{◌≡◌, ℕ, ◌<◌, ◌≤◌, Bool, true, false, ◌&&◌, cond, eqb, List, [], ◌∷◌, ◌++◌, map, refl, sym, ap, ◌∙◌, arith, inl, inr}
use lib.Utf8.{scalar, scalars, scalar_cases}
use Rattle.std.specs.Prelude.{◌==◌, encode_utf8_all}
use Rattle.std.specs.Char.{encode_utf8}
use Rattle.std.specs.List.{list_all, flat_map}
use Rattle.std.specs.Str.{IsUtf8, chars}
use Rattle.std.proofs.lemmas.Str.{encode_ascii, encodes-chars, encodes-append, scalars-chars, chars-append}
use Rattle.std.proofs.lemmas.List.Folds.{list_all-append}
use Rattle.std.proofs.lemmas.List.Concat.{flat_map-cons}
use Rattle.std.proofs.lemmas.Grind.{flat_map-append}
use Rattle.std.proofs.lemmas.Bool.{cases_lt, eqb-true}
use Rattle.std.proofs.lemmas.Bool.Decides.{nat_tests}
use Rattle.doc_tree.specs.Characters.{is_allowed, is_plain, or_replacement, allowed_text}
use Rattle.doc_tree.specs.Escape.{escaped_byte, escaped_bytes, escaped}

pub both : (a b : Bool) → (a && b) ≡ true → (a ≡ true) × (b ≡ true)
both true b h = (refl, h)
both false b h = absurd cc

-- ---- plain bytes

-- of what is encoded in more bytes, two are not allowed, and have the byte 0xef
encode_high : (c : ℕ) (x y : Bool) → 128 ≤ c → scalar c ≡ true → eqb c 0xfffe ≡ x → eqb c 0xffff ≡ y → list_all is_plain (encode_utf8 c) ≡ true → is_allowed c ≡ true
unfolding encode_utf8
encode_high c true y le is e f plain = absurd (cc (ap (λ k. list_all is_plain (encode_utf8 k)) (sym (eqb-true c 0xfffe e)) ∙ plain))
encode_high c false true le is e f plain = absurd (cc (ap (λ k. list_all is_plain (encode_utf8 k)) (sym (eqb-true c 0xffff f)) ∙ plain))
encode_high c false false le is e f plain =
    elim (scalar_cases c is) [
      | inl lt ↦ grind (arith, nat_tests)
      | inr between ↦ let low = between.0 in let high = between.1 in grind (arith, nat_tests)
    ]

low_plain : (c : ℕ) → c < 128 → is_plain c ≡ true → is_allowed c ≡ true
low_plain c lt plain = grind (arith, nat_tests)

encode_plain : (c : ℕ) → scalar c ≡ true → list_all is_plain (encode_utf8 c) ≡ true → is_allowed c ≡ true
encode_plain c is plain =
    elim (cases_lt c 128) [
      | inl lt ↦ low_plain c lt (both (is_plain c) true (ap (list_all is_plain) (sym (encode_ascii c lt)) ∙ plain)).0
      | inr le ↦ encode_high c (eqb c 0xfffe) (eqb c 0xffff) le is refl refl plain
    ]

plain_all : (cs : List ℕ) → scalars cs ≡ true → list_all is_plain (encode_utf8_all cs) ≡ true → list_all is_allowed cs ≡ true
plain_all [] are plain = refl
plain_all (c ∷ cs) are plain =
    let p = both (scalar c) (scalars cs) are in
    let q = both (list_all is_plain (encode_utf8 c)) (list_all is_plain (encode_utf8_all cs)) (sym (list_all-append is_plain (encode_utf8 c) (encode_utf8_all cs)) ∙ plain) in
    rw (encode_plain c p.0 q.0) (plain_all cs p.1 q.1)

pub plain_bytes : (bs : List ℕ) → IsUtf8 bs → list_all is_plain bs ≡ true → list_all is_allowed (chars bs) ≡ true
plain_bytes bs text plain = plain_all (chars bs) (scalars-chars bs text) (ap (list_all is_plain) (encodes-chars bs text) ∙ plain)

-- ---- what stands for characters

-- allowed characters stand for themselves
each_stays : (cs : List ℕ) → list_all is_allowed cs ≡ true → map or_replacement cs ≡ cs
each_stays [] h = refl
each_stays (c ∷ cs) h =
    let k = both (is_allowed c) (list_all is_allowed cs) h in
    rw (k.0, each_stays cs k.1) refl

pub allowed_stays : (text : List ℕ) → IsUtf8 text → list_all is_allowed (chars text) ≡ true → allowed_text text ≡ text
unfolding allowed_text
allowed_stays text is h = ap encode_utf8_all (each_stays (chars text) h) ∙ encodes-chars text is

-- so such a text is written byte for byte
pub allowed_escaped : (in_value : Bool) (text : List ℕ) → IsUtf8 text → list_all is_allowed (chars text) ≡ true → escaped in_value text ≡ escaped_bytes in_value text
allowed_escaped in_value text is h = ap (escaped_bytes in_value) (allowed_stays text is h)

-- one character as it is written
abbrev pub escaped_character : Bool → ℕ → List ℕ
escaped_character in_value c = escaped_bytes in_value (encode_utf8 (or_replacement c))

each_escaped : (in_value : Bool) (cs : List ℕ) → escaped_bytes in_value (encode_utf8_all (map or_replacement cs)) ≡ flat_map (escaped_character in_value) cs
each_escaped in_value [] = refl
each_escaped in_value (c ∷ cs) =
    flat_map-append (escaped_byte in_value) (encode_utf8 (or_replacement c)) (encode_utf8_all (map or_replacement cs))
    ∙ ap (λ (t : List ℕ). escaped_character in_value c ++ t) (each_escaped in_value cs)
    ∙ sym (flat_map-cons (escaped_character in_value) c cs)

-- a text is written character by character
pub escaped_is : (in_value : Bool) (text : List ℕ) → escaped in_value text ≡ flat_map (escaped_character in_value) (chars text)
unfolding allowed_text
escaped_is in_value text = each_escaped in_value (chars text)

-- a text behind another is written behind it
pub escaped_append : (in_value : Bool) (a b : List ℕ) → IsUtf8 a → escaped in_value (a ++ b) ≡ escaped in_value a ++ escaped in_value b
escaped_append in_value a b is =
    escaped_is in_value (a ++ b) ∙ ap (flat_map (escaped_character in_value)) (chars-append a b is)
    ∙ flat_map-append (escaped_character in_value) (chars a) (chars b)
    ∙ rw (escaped_is in_value a, escaped_is in_value b) refl
