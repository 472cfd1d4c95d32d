-- The text of positions reads back as these positions.
use Rattle.std.proofs.Common.{◌≡◌, ℕ, ◌<◌, ◌^◌, Bool, true, List, [], ◌∷◌, ◌++◌, length, Ok, refl, sym, ap, ◌∙◌, append_assoc, arith}
use Rattle.std.specs.Prelude.{ℤ, pos, negsuc, nat_lt, All}
use Rattle.std.specs.List.{filter, flat_map}
use Rattle.std.specs.Fmt.{signed_decimal}
use Rattle.std.specs.Int.Signed.{mag}
use Rattle.std.proofs.lemmas.Int.{ints}
use Rattle.std.proofs.lemmas.List.{append-nil}
use Rattle.std.proofs.lemmas.List.Concat.{flat_map-cons}
use Rattle.std.proofs.lemmas.List.Elements.{All-head, All-tail}
use Rattle.std.proofs.lemmas.List.Splits.{slice_split_at, slice_split_none}
use Rattle.wfs_ends.specs.Ends.{joined}
use Rattle.wfs_ends.specs.Read.{each}
use Rattle.geom_core.specs.Plane.{Point, IsCoordinate, IsPosition}
use Rattle.geom_core.specs.Shapes.{is_coordinate, position_of}
use Rattle.gml_docs.specs.Numbers.{is_space, words, point_of, points_of, located, placed, positions_of, position_in}
use Rattle.gml_docs.specs.Written.{position_text, next_text, positions_text}
use Rattle.gml_docs.proofs.Cuts.{space_first, no_words}
use Rattle.gml_docs.proofs.Decimals.{IsWord, read_again, number_word}

abbrev is_word : List ℕ → Bool
is_word word = nat_lt 0 (length word)

abbrev number : ℤ → List ℕ
number z = signed_decimal z

space : is_space 32 ≡ true
unfolding is_space
space = refl

-- a word that a space follows
word_first : (word rest : List ℕ) → IsWord word → words (word ++ 32 ∷ rest) ≡ word ∷ words rest
unfolding words
word_first word rest w =
    let some : is_word word ≡ true = grind (arith, w.some) in
    ap (filter is_word) (slice_split_at is_space word 32 rest w.plain space) ∙ rw some refl

-- a word alone
word_alone : (word : List ℕ) → IsWord word → words word ≡ word ∷ []
unfolding words
word_alone word w =
    let some : is_word word ≡ true = grind (arith, w.some) in
    ap (filter is_word) (slice_split_none is_space word w.plain) ∙ rw some refl

-- the words of positions
abbrev wording : List Point → List (List ℕ)
wording [] = []
wording (p ∷ ps) = number p.x ∷ number p.y ∷ wording ps

abbrev behind : List Point → List ℕ
behind ps = flat_map next_text ps

module _ (p : Point) (rest : List ℕ) where
  position_parts : position_text p ++ rest ≡ number p.x ++ 32 ∷ (number p.y ++ rest)
  unfolding position_text joined
  position_parts = rw append-nil (simp append_assoc refl)

  next_parts : next_text p ++ rest ≡ 32 ∷ (position_text p ++ rest)
  unfolding next_text
  next_parts = refl

behind_parts : (p : Point) (ps : List Point) → behind (p ∷ ps) ≡ 32 ∷ (position_text p ++ behind ps)
behind_parts p ps = flat_map-cons next_text p ps ∙ next_parts p (behind ps)

-- the second number of a position
last_word : (word : List ℕ) (ps : List Point) → IsWord word → words (word ++ behind ps) ≡ word ∷ words (behind ps)
last_word word [] w = ap words (append-nil word) ∙ word_alone word w ∙ ap (λ ws. word ∷ ws) (sym no_words)
last_word word (p ∷ ps) w =
    ap (λ t. words (word ++ t)) (behind_parts p ps)
    ∙ word_first word (position_text p ++ behind ps) w
    ∙ ap (λ ws. word ∷ ws) (sym (ap words (behind_parts p ps) ∙ space_first 32 (position_text p ++ behind ps) space))

small : (z : ℤ) → IsCoordinate z → mag z < 2 ^ 63
small (pos n) c = grind (arith, ints, c.to)
small (negsuc n) c = grind (arith, ints, c.from)

module _ (p : Point) (h : IsPosition p) where
  position_words : (ps : List Point) → words (position_text p ++ behind ps) ≡ number p.x ∷ number p.y ∷ words (behind ps)
  position_words ps =
      ap words (position_parts p (behind ps))
      ∙ word_first (number p.x) (number p.y ++ behind ps) (number_word p.x (small p.x h.x))
      ∙ ap (λ ws. number p.x ∷ ws) (last_word (number p.y) ps (number_word p.y (small p.y h.y)))

  point_again : point_of (number p.x) (number p.y) ≡ Ok p
  unfolding point_of
  point_again = rw (read_again p.x (small p.x h.x), read_again p.y (small p.y h.y)) refl

  in_range : position_of p.x p.y ≡ Ok p
  in_range =
      let x : is_coordinate p.x ≡ true = grind (arith, ints, h.x.from, h.x.to) in
      let y : is_coordinate p.y ≡ true = grind (arith, ints, h.y.from, h.y.to) in
      rw (x, y) refl

  -- one position
  pub position_again : position_in (position_text p) ≡ Ok p
  unfolding position_in located
  position_again =
      let ws : words (position_text p) ≡ number p.x ∷ number p.y ∷ [] = sym (ap words (append-nil (position_text p))) ∙ position_words [] ∙ ap (λ ws. number p.x ∷ number p.y ∷ ws) no_words in
      rw (ws, point_again, in_range) refl

words_behind : (ps : List Point) → All IsPosition ps → words (behind ps) ≡ wording ps
words_behind [] h = no_words
words_behind (p ∷ ps) h =
    ap words (behind_parts p ps) ∙ space_first 32 (position_text p ++ behind ps) space
    ∙ position_words p (All-head IsPosition p ps h) ps
    ∙ ap (λ ws. number p.x ∷ number p.y ∷ ws) (words_behind ps (All-tail IsPosition p ps h))

words_again : (ps : List Point) → All IsPosition ps → words (positions_text ps) ≡ wording ps
unfolding positions_text
words_again [] h = no_words
words_again (p ∷ ps) h =
    position_words p (All-head IsPosition p ps h) ps ∙ ap (λ ws. number p.x ∷ number p.y ∷ ws) (words_behind ps (All-tail IsPosition p ps h))

points_again : (ps : List Point) → All IsPosition ps → points_of (wording ps) ≡ Ok ps
unfolding points_of
points_again [] h = refl
points_again (p ∷ ps) h = rw (point_again p (All-head IsPosition p ps h), points_again ps (All-tail IsPosition p ps h)) refl

placed_again : (found ps : List Point) → All IsPosition ps → each placed found ps ≡ Ok (found ++ ps)
unfolding each placed
placed_again found [] h = ap Ok (sym (append-nil found))
placed_again found (p ∷ ps) h =
    rw (in_range p (All-head IsPosition p ps h)) (placed_again (found ++ p ∷ []) ps (All-tail IsPosition p ps h) ∙ ap Ok (append_assoc found (p ∷ []) ps))

-- all positions
pub positions_again : (ps : List Point) → All IsPosition ps → positions_of (positions_text ps) ≡ Ok ps
unfolding positions_of
positions_again ps h = rw (words_again ps h, points_again ps h) (placed_again [] ps h)
