-- The first word, and the words one after another.
use Rattle.std.proofs.Common.{◌≡◌, ℕ, zero, suc, ◌+◌, ◌<◌, refl, sym, ap, ◌∙◌, List, [], ◌∷◌, map, length, drop, get_or, Option, Some, None, String, Global, string_bytes, arith}
use Rattle.std.specs.List.{IsFirstAndRest}
use Rattle.wfs_words.specs.Words.{first_word, ◌>>=◌, State, Texts, step, read}

pub first_some : (words : List (String Global)) (w : String Global) (ws : List (String Global)) → IsFirstAndRest words w ws → Some (string_bytes w, map string_bytes ws) ≡ first_word (map string_bytes words)
unfolding first_word
first_some words w ws e = rw e.0 refl

pub first_none : (words : List (String Global)) → length words ≡ 0 → None ≡ first_word (map string_bytes words)
unfolding first_word
first_none [] e = refl
first_none (w ∷ ws) e = absurd (omega arith)

pub length_same : (words : List (String Global)) → length (map string_bytes words) ≡ length words
length_same [] = refl
length_same (w ∷ ws) = ap suc (length_same ws)

-- ---- the words one after another

word_next : (words : List (String Global)) (i : ℕ) (d : String Global) → i < length words → drop i (map string_bytes words) ≡ string_bytes (get_or words i d) ∷ drop (suc i) (map string_bytes words)
word_next [] i d lt = absurd (omega arith)
word_next (w ∷ ws) zero d lt = refl
word_next (w ∷ ws) (suc i) d lt = word_next ws i d (omega arith)

at_word : (words : List (String Global)) (i : ℕ) (w : String Global) (text : List ℕ) → i < length words → w ≡ get_or words i w → text ≡ string_bytes w
    → drop i (map string_bytes words) ≡ text ∷ drop (i + 1) (map string_bytes words)
at_word words i w text lt is value = let next = word_next words i w lt in let one : i + 1 ≡ suc i = omega arith in cc

-- a word that is refused ends the reading
pub stops : (words : List (String Global)) (i : ℕ) (w : String Global) (text : List ℕ) (s : State) (o : Option Texts) → i < length words → w ≡ get_or words i w → text ≡ string_bytes w
    → read s (drop i (map string_bytes words)) ≡ o → None ≡ step s text → None ≡ o
unfolding read
stops words i w text s o lt is value inv none =
    ap (λ (m : Option State). m >>= λ next. read next (drop (i + 1) (map string_bytes words))) none
    ∙ ap (read s) (sym (at_word words i w text lt is value)) ∙ inv

pub goes_on : (words : List (String Global)) (i : ℕ) (w : String Global) (text : List ℕ) (s next : State) (o : Option Texts) → i < length words → w ≡ get_or words i w → text ≡ string_bytes w
    → read s (drop i (map string_bytes words)) ≡ o → Some next ≡ step s text → read next (drop (i + 1) (map string_bytes words)) ≡ o
unfolding read
goes_on words i w text s next o lt is value inv some =
    ap (λ (m : Option State). m >>= λ next. read next (drop (i + 1) (map string_bytes words))) some
    ∙ ap (read s) (sym (at_word words i w text lt is value)) ∙ inv
