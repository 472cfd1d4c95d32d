-- Whether bytes are text, and where its lines end.
use Rattle.std.proofs.Common.{◌≡◌, ℕ, Bool, true, false, eqb, List, [], ◌∷◌, ◌++◌, map, refl, sym, ap, ◌∙◌, ◌||◌, cond}
use Rattle.std.specs.Prelude.{◌==◌, encode_utf8, encode_utf8_all}
use Rattle.std.specs.Str.{IsUtf8, is_utf8}
use Rattle.std.proofs.lemmas.Str.{is_utf8-from_IsUtf8, IsUtf8-from_is_utf8}
use Rattle.std.proofs.lemmas.Str.{encodes-append}
use Rattle.std.proofs.lemmas.List.{append-nil}
use Rattle.std.proofs.lemmas.Bool.{eqb-true}
use Rattle.std.specs.List.{list_any}
use Rattle.doc_read.specs.Lex.{plain}
use Rattle.doc_read.specs.Document.{line_piece, line_feeds}
use Rattle.doc_read.proofs.Marks.{neither}

pub is_utf8_yes : (bs : List ℕ) → IsUtf8 bs → is_utf8 bs ≡ true
is_utf8_yes = is_utf8-from_IsUtf8

false_unless : (b : Bool) → (b ≡ true → ⊥) → b ≡ false
false_unless true h = absurd (h refl)
false_unless false h = refl

pub is_utf8_no : (bs : List ℕ) → ¬ (IsUtf8 bs) → is_utf8 bs ≡ false
is_utf8_no bs is = false_unless (is_utf8 bs) (λ e. is (IsUtf8-from_is_utf8 bs e))

pub line_turn : (was : Bool) (c : ℕ) (cs rest : List ℕ) → cs ≡ c ∷ rest → encode_utf8_all (line_feeds was cs) ≡ encode_utf8_all (line_piece was c) ++ encode_utf8_all (line_feeds (eqb c 13) rest)
unfolding line_feeds
line_turn was c cs rest is = ap (λ ys. encode_utf8_all (line_feeds was ys)) is ∙ encodes-append (line_piece was c) (line_feeds (eqb c 13) rest)

pub line_end : (found : List ℕ) (was : Bool) (cs : List ℕ) → cs ≡ [] → found ++ encode_utf8_all (line_feeds was cs) ≡ found
unfolding line_feeds
line_end found was cs is = rw is (append-nil found)

-- without carriage returns, lines end as they do
pub lines_stay : (cs : List ℕ) → list_any (λ c. c == 13) cs ≡ false → line_feeds false cs ≡ cs
unfolding line_feeds line_piece
lines_stay [] none = refl
lines_stay (c ∷ cs) none =
    let p = neither (eqb c 13) (list_any (λ d. d == 13) cs) none in
    rw (p.0, lines_stay cs p.1) refl

-- ---- characters one by one

one_stays : (c : ℕ) → eqb c 9 ≡ false → eqb c 10 ≡ false → plain c ≡ c
one_stays c a b = rw (a, b) (same (eqb c 32) refl)
  where
    same : (x : Bool) → eqb c 32 ≡ x → cond (x || false || false) 32 c ≡ c
    same true e = sym (eqb-true c 32 e)
    same false e = refl

-- without tabs and line feeds, white space is spaces
pub plain_stay : (cs : List ℕ) → list_any (λ c. c == 9) cs ≡ false → list_any (λ c. c == 10) cs ≡ false → map plain cs ≡ cs
plain_stay [] tabs feeds = refl
plain_stay (c ∷ cs) tabs feeds =
    let p = neither (eqb c 9) (list_any (λ d. d == 9) cs) tabs in
    let q = neither (eqb c 10) (list_any (λ d. d == 10) cs) feeds in
    rw (one_stays c p.0 q.0, plain_stay cs p.1 q.1) refl

pub plain_turn : (c : ℕ) (cs rest : List ℕ) → cs ≡ c ∷ rest → encode_utf8_all (map plain cs) ≡ encode_utf8 (plain c) ++ encode_utf8_all (map plain rest)
plain_turn c cs rest is = rw is refl

pub plain_end : (found cs : List ℕ) → cs ≡ [] → found ++ encode_utf8_all (map plain cs) ≡ found
plain_end found cs is = rw is (append-nil found)
