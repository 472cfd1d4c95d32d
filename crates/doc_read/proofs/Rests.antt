-- What is left of a text.
use Rattle.std.proofs.Common.{◌≡◌, ℕ, ◌-◌, true, List, [], ◌∷◌, ◌++◌, length, take, refl, sym, ap, subst, ◌∙◌, append_assoc, arith}
use Rattle.std.specs.Prelude.{nat_lt, encode_utf8_all}
use Rattle.std.specs.List.{list_all}
use Rattle.std.specs.Str.{IsUtf8, IsAscii, IsCharBoundary, chars, bytes_eq}
use Rattle.std.proofs.lemmas.Str.{chars-nil, chars-append, chars-IsAscii, encodes-chars, IsUtf8-take, IsCharBoundary-at_seam}
use Rattle.std.proofs.lemmas.Str.Ascii.{IsAscii-nil, IsAscii-cons}
use Rattle.std.proofs.lemmas.Bool.{ltb-true}
use Rattle.std.proofs.lemmas.List.{take_at, length-append}
use Rattle.std.proofs.lemmas.Bool.Decides.{same_from_decides, Decides-like}
use Rattle.std.proofs.lemmas.Slice.Eq.{bytes_eq-Decides}
use Rattle.doc_read.specs.Rest.{IsRest}
use Rattle.doc_read.proofs.Fronts.{both}

pub chars_nil : chars [] ≡ []
chars_nil = chars-nil

ascii : (word : List ℕ) → list_all (λ b. nat_lt b 128) word ≡ true → IsAscii word
ascii [] is = IsAscii-nil
ascii (b ∷ bs) is = let p = both (nat_lt b 128) (list_all (λ c. nat_lt c 128) bs) is in IsAscii-cons b bs (ltb-true b 128 p.0) (ascii bs p.1)

-- the characters of a word of ASCII are its bytes
pub word_chars : (word : List ℕ) → list_all (λ b. nat_lt b 128) word ≡ true → chars word ≡ word
word_chars word is = chars-IsAscii word (ascii word is)

pub rest_here : (whole : List ℕ) → IsRest whole whole
rest_here whole = ([], refl)

-- some more was read
pub rest_after : (whole rest front after : List ℕ) → IsRest whole rest → rest ≡ front ++ after → IsRest whole after
rest_after whole rest front after is more = (is.0 ++ front, is.1 ∙ ap (λ x. is.0 ++ x) more ∙ sym (append_assoc is.0 front after))

module _ (whole rest : List ℕ) (is : IsRest whole rest) where
  seam : length is.0 ≡ length whole - length rest
  seam = omega (arith, ap length is.1, length-append is.0 rest)

  pub cut_between : IsUtf8 rest → IsCharBoundary whole (length whole - length rest)
  cut_between text = subst (IsCharBoundary whole) seam (IsCharBoundary-at_seam whole is.0 rest is.1 text)

  pub chars_between : IsUtf8 whole → IsUtf8 rest → (front : List ℕ) → front ≡ take (length whole - length rest) whole → chars whole ≡ chars front ++ chars rest
  chars_between all text front cut =
      let same : front ≡ is.0 = cut ∙ ap (λ n. take n whole) (sym seam) ∙ ap (take (length is.0)) is.1 ∙ take_at is.0 rest (length is.0) refl in
      let front_text : IsUtf8 front = subst IsUtf8 (sym cut) (IsUtf8-take whole (length whole - length rest) all (cut_between text)) in
      ap chars (is.1 ∙ ap (λ x. x ++ rest) (sym same)) ∙ chars-append front rest front_text

-- texts with the same characters are the same
pub same_text : (a b : List ℕ) → IsUtf8 a → IsUtf8 b → chars a ≡ chars b → a ≡ b
same_text a b text_a text_b same = sym (encodes-chars a text_a) ∙ ap encode_utf8_all same ∙ encodes-chars b text_b

pub same_bytes : (a b : List ℕ) → IsUtf8 a → IsUtf8 b → bytes_eq a b ≡ bytes_eq (chars a) (chars b)
same_bytes a b text_a text_b =
    same_from_decides _ _ (bytes_eq-Decides a b) (Decides-like (bytes_eq (chars a) (chars b)) (same_text a b text_a text_b) (ap chars) (bytes_eq-Decides (chars a) (chars b)))
