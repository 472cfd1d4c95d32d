-- The words of a text, from its front.
use Rattle.std.proofs.Common.{◌≡◌, ℕ, suc, ◌+◌, ◌<◌, ◌≤◌, Bool, true, false, List, [], ◌∷◌, length, take, drop, refl, sym, ap, ◌∙◌, arith}
use Rattle.std.specs.Prelude.{nat_lt}
use Rattle.std.specs.List.{filter, prefix_len, position_or_len}
use Rattle.std.proofs.lemmas.List.{drop_more, drop_all, take_all, length-drop}
use Rattle.std.proofs.lemmas.List.Sums.{passes_at_first, fails_before_first, prefix_len-drop_no, prefix_len_stops}
use Rattle.std.proofs.lemmas.List.Splits.{slice_split-cons_yes, slice_split_none, slice_split_first}
use Rattle.gml_docs.specs.Numbers.{is_space, words}

abbrev is_word : List ℕ → Bool
is_word word = nat_lt 0 (length word)

pub no_words : words [] ≡ []
unfolding words
no_words = refl

-- a space in front says nothing
pub space_first : (b : ℕ) (bs : List ℕ) → is_space b ≡ true → words (b ∷ bs) ≡ words bs
unfolding words
space_first b bs e = ap (filter is_word) (slice_split-cons_yes is_space b bs e)

abbrev WithoutSpaces : List ℕ → Type 0
WithoutSpaces text = words (drop (prefix_len is_space text) text) ≡ words text

without_one : (b : ℕ) (bs : List ℕ) → WithoutSpaces bs → (t : Bool) → is_space b ≡ t → WithoutSpaces (b ∷ bs)
without_one b bs h true e = let k : 1 + prefix_len is_space bs ≡ suc (prefix_len is_space bs) = omega arith in rw (e, k) (h ∙ sym (space_first b bs e))
without_one b bs h false e = rw e refl

without_spaces : (text : List ℕ) → WithoutSpaces text
without_spaces [] = refl
without_spaces (b ∷ bs) = without_one b bs (without_spaces bs) (is_space b) refl

abbrev end_of : List ℕ → ℕ
end_of text = position_or_len is_space text

-- ---- a text that begins with a word

some_word : (b : ℕ) (bs : List ℕ) → is_word (b ∷ bs) ≡ true
some_word b bs = grind arith

module _ (b : ℕ) (bs : List ℕ) (e : is_space b ≡ false) where
  abbrev text : List ℕ
  text = b ∷ bs

  end_is : end_of text ≡ 1 + end_of bs
  end_is = rw e refl

  is_one : is_word (take (end_of text) text) ≡ true
  is_one = let k : 1 + end_of bs ≡ suc (end_of bs) = omega arith in rw (end_is, k) (some_word b _)

  ends_in_space : end_of text < length text → words text ≡ take (end_of text) text ∷ words (drop (end_of text) text)
  unfolding words
  ends_in_space lt =
      ap (filter is_word) (slice_split_first is_space text b lt)
      ∙ rw is_one refl
      ∙ ap (λ ws. take (end_of text) text ∷ ws) (sym (ap words (drop_more text (end_of text) b lt) ∙ space_first _ _ (passes_at_first is_space text b lt)))

  all_word : length text ≤ end_of text → words text ≡ text ∷ []
  unfolding words
  all_word le = ap (filter is_word) (slice_split_none is_space text (λ i d lt. fails_before_first is_space text i d (omega (arith, lt, le)))) ∙ rw (some_word b bs) refl

  ends_with_it : length text ≤ end_of text → words text ≡ take (end_of text) text ∷ words (drop (end_of text) text)
  ends_with_it le = all_word le ∙ sym (ap (λ w. w ∷ words (drop (end_of text) text)) (take_all (end_of text) text le) ∙ ap (λ t. text ∷ words t) (drop_all (end_of text) text le) ∙ ap (λ ws. text ∷ ws) no_words)

  pub begins : words text ≡ take (end_of text) text ∷ words (drop (end_of text) text)
  begins = by (nat_lt (end_of text) (length text)) refl
    where
      by : (t : Bool) → nat_lt (end_of text) (length text) ≡ t → words text ≡ take (end_of text) text ∷ words (drop (end_of text) text)
      by true h = ends_in_space (grind (arith, h))
      by false h = ends_with_it (grind (arith, h))

-- the same, where white space does not stand first
begins_at : (text : List ℕ) → 0 < length text → prefix_len is_space text ≡ 0 → (words text ≡ take (end_of text) text ∷ words (drop (end_of text) text)) × (0 < end_of text)
begins_at [] some e = absurd (omega arith)
begins_at (b ∷ bs) some e = by (is_space b) refl
  where
    by : (t : Bool) → is_space b ≡ t → (words (b ∷ bs) ≡ take (end_of (b ∷ bs)) (b ∷ bs) ∷ words (drop (end_of (b ∷ bs)) (b ∷ bs))) × (0 < end_of (b ∷ bs))
    by true t = absurd (let bad : 1 + prefix_len is_space bs ≡ 0 = rw t at e in omega arith)
    by false t = (begins b bs t, omega (arith, end_is b bs t))

-- ---- what stands behind the white space in front

module _ (text rest : List ℕ) (n : ℕ) (is : n ≡ prefix_len is_space text) (same : rest ≡ drop n text) where
  same_words : words text ≡ words rest
  same_words = rw (same, is) (sym (without_spaces text))

  stops : 0 < length rest → prefix_len is_space rest ≡ 0
  stops some =
      let lt : n < length text = omega (arith, some, ap length same, length-drop n text) in
      rw same (prefix_len-drop_no is_space text n 0 lt (rw is (prefix_len_stops is_space text 0 (rw is at lt))))

  pub none_left : length rest ≡ 0 → words text ≡ []
  none_left e = same_words ∙ ap words (nothing rest e) ∙ no_words
    where
      nothing : (xs : List ℕ) → length xs ≡ 0 → xs ≡ []
      nothing [] e = refl
      nothing (x ∷ xs) e = absurd (omega arith)

  pub first_is : (k : ℕ) (word behind : List ℕ) → k ≡ end_of rest → 0 < length rest → word ≡ take k rest → behind ≡ drop k rest
      → (words text ≡ word ∷ words behind) × (length behind < length text)
  first_is k word behind e some front back =
      let h = begins_at rest some (stops some) in
      (rw (front, back, e) (same_words ∙ h.0), omega (arith, h.1, e, some, ap length back, length-drop k rest, ap length same, length-drop n text))
