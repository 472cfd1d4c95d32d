-- What the bytes of a text say of its characters.
use Rattle.std.proofs.Common.{◌≡◌, ℕ, suc, ◌+◌, ◌/◌, ◌%◌, ◌<◌, ◌≤◌, Bool, true, false, cond, ◌||◌, ltb, List, [], ◌∷◌, map, refl, sym, ap, subst, ◌∙◌, arith, inl, inr}
use Rattle.std.specs.Prelude.{◌==◌, codes, encode_utf8_all}
use Rattle.std.specs.Char.{encode_utf8, to_ascii_lowercase}
use Rattle.std.specs.List.{list_any}
use Rattle.std.specs.Str.{IsUtf8, IsAscii, chars, bytes_eq}
use Rattle.std.proofs.lemmas.Str.{encode_ascii, encodes-chars, encodes-IsAscii, chars-IsAscii}
use Rattle.std.proofs.lemmas.Str.Ascii.{IsAscii-nil, IsAscii-cons, lowercase_is}
use Rattle.std.proofs.lemmas.List.Folds.{list_any-append}
use Rattle.std.proofs.lemmas.Bool.{cases_lt}
use Rattle.std.proofs.lemmas.Bool.Decides.{same_from_decides, Decides-like, nat_tests}
use Rattle.std.proofs.lemmas.Slice.Eq.{bytes_eq-Decides}
use Rattle.doc_read.specs.declared.word.Word.TheVariants.{SectionEnd}
use Rattle.doc_read.specs.Chars.{begins, contains}
use Rattle.doc_read.proofs.Words.{contains_end, contains_later}
use Rattle.doc_read.proofs.Marks.{neither, begins_cons}

-- ---- a byte of ASCII, which only its own character has, and tests of them

other : (byte n : ℕ) → byte < 128 → 128 ≤ n → (n == byte) ≡ false
other byte n lt le = grind (arith, nat_tests)

alone : (b : Bool) → (b || false) ≡ b
alone true = refl
alone false = refl

-- the same of each test that only ASCII passes
module _ (test : ℕ → Bool) (above : (n : ℕ) → 128 ≤ n → test n ≡ false) where
  encode_passes : (c : ℕ) → list_any test (encode_utf8 c) ≡ test c
  unfolding encode_utf8
  encode_passes c =
      elim (cases_lt c 128) [
        | inl lt ↦ ap (list_any test) (encode_ascii c lt) ∙ alone (test c)
        | inr le ↦ more (ltb c 128) (ltb c 2048) (ltb c 65536) le
      ]
    where
      more : (x y z : Bool) → 128 ≤ c
          → list_any test (cond x (c ∷ []) (cond y ((192 + c / 64) ∷ (128 + c % 64) ∷ []) (cond z ((224 + c / 4096) ∷ (128 + (c / 64) % 64) ∷ (128 + c % 64) ∷ []) ((240 + c / 262144) ∷ (128 + (c / 4096) % 64) ∷ (128 + (c / 64) % 64) ∷ (128 + c % 64) ∷ [])))) ≡ test c
      more true y z le = alone (test c)
      more false true z le = rw (above c le, above (192 + c / 64) (omega arith), above (128 + c % 64) (omega arith)) refl
      more false false true le = rw (above c le, above (224 + c / 4096) (omega arith), above (128 + (c / 64) % 64) (omega arith), above (128 + c % 64) (omega arith)) refl
      more false false false le = rw (above c le, above (240 + c / 262144) (omega arith), above (128 + (c / 4096) % 64) (omega arith), above (128 + (c / 64) % 64) (omega arith), above (128 + c % 64) (omega arith)) refl

  encodes_pass : (cs : List ℕ) → list_any test (encode_utf8_all cs) ≡ list_any test cs
  encodes_pass [] = refl
  encodes_pass (c ∷ cs) = list_any-append test (encode_utf8 c) (encode_utf8_all cs) ∙ rw (encode_passes c, encodes_pass cs) refl

  pub chars_pass : (bs : List ℕ) → IsUtf8 bs → list_any test bs ≡ list_any test (chars bs)
  chars_pass bs text = ap (list_any test) (sym (encodes-chars bs text)) ∙ encodes_pass (chars bs)

pub chars_have : (byte : ℕ) (bs : List ℕ) → byte < 128 → IsUtf8 bs → list_any (λ d. d == byte) bs ≡ list_any (λ d. d == byte) (chars bs)
chars_have byte bs ascii text = chars_pass (λ d. d == byte) (λ n le. other byte n ascii le) bs text

pub no_section_end : (cs : List ℕ) → list_any (λ d. d == 93) cs ≡ false → contains SectionEnd cs ≡ false
no_section_end [] none = contains_end SectionEnd [] refl
no_section_end (c ∷ cs) none =
    let p = neither (c == 93) (list_any (λ d. d == 93) cs) none in
    let here : begins SectionEnd (c ∷ cs) ≡ false = begins_cons 93 (93 ∷ 62 ∷ []) c cs ∙ rw p.0 refl in
    contains_later SectionEnd c (c ∷ cs) cs refl here ∙ no_section_end cs p.1

-- ---- small letters

lower_below : (c : ℕ) → to_ascii_lowercase c < 128 → c < 128
lower_below c lt = elim (cases_lt c 128) [
  | inl below ↦ below
  | inr le ↦ let same = (lowercase_is c).2 (omega arith) in absurd (omega (arith, same))
]

lower_ascii : (cs : List ℕ) → IsAscii (map to_ascii_lowercase cs) → IsAscii cs
lower_ascii [] is = is
lower_ascii (c ∷ cs) is = IsAscii-cons c cs (lower_below c (is 0)) (lower_ascii cs (λ i. is (suc i)))

lower_bytes : (bs word : List ℕ) → IsUtf8 bs → IsAscii word → bytes_eq (map to_ascii_lowercase bs) word ≡ bytes_eq (map to_ascii_lowercase (chars bs)) word
lower_bytes bs word text ascii =
    same_from_decides _ _ (bytes_eq-Decides (map to_ascii_lowercase bs) word)
    (Decides-like (bytes_eq (map to_ascii_lowercase (chars bs)) word) from_chars to_chars (bytes_eq-Decides (map to_ascii_lowercase (chars bs)) word))
  where
    from_chars : map to_ascii_lowercase (chars bs) ≡ word → map to_ascii_lowercase bs ≡ word
    from_chars e = ap (map to_ascii_lowercase) (sym (encodes-chars bs text) ∙ encodes-IsAscii (chars bs) (lower_ascii (chars bs) (subst IsAscii (sym e) ascii))) ∙ e

    to_chars : map to_ascii_lowercase bs ≡ word → map to_ascii_lowercase (chars bs) ≡ word
    to_chars e = ap (map to_ascii_lowercase) (chars-IsAscii bs (lower_ascii bs (subst IsAscii (sym e) ascii))) ∙ e

utf8_ascii : IsAscii (codes "utf-8")
utf8_ascii =
    IsAscii-cons 117 (116 ∷ 102 ∷ 45 ∷ 56 ∷ []) (omega arith)
    (IsAscii-cons 116 (102 ∷ 45 ∷ 56 ∷ []) (omega arith)
    (IsAscii-cons 102 (45 ∷ 56 ∷ []) (omega arith)
    (IsAscii-cons 45 (56 ∷ []) (omega arith)
    (IsAscii-cons 56 [] (omega arith) IsAscii-nil))))

pub utf8_bytes : (bs : List ℕ) → IsUtf8 bs → bytes_eq (map to_ascii_lowercase bs) (codes "utf-8") ≡ bytes_eq (map to_ascii_lowercase (chars bs)) (codes "utf-8")
utf8_bytes bs text = lower_bytes bs (codes "utf-8") text utf8_ascii
