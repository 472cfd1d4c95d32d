-- Where words stand.
use Rattle.std.proofs.Common.{◌≡◌, ℕ, ◌+◌, ◌<◌, ◌≤◌, List, [], ◌∷◌, ◌++◌, length, get_or, drop, true, false, ◌||◌, Ok, Err, refl, sym, ap, ◌∙◌}
use Rattle.std.proofs.lemmas.List.{at_drop_more, at_drop_all}
use Rattle.doc_read.specs.declared.word.Word.{Word}
use Rattle.doc_read.specs.declared.fault.DocFault.TheVariants.{Malformed}
use Rattle.wfs_ends.specs.Read.{◌>>=◌}
use Rattle.doc_read.specs.Chars.{letter_at, letters_at, word_at, begins, contains, cut, split_from}

pub contains_turn : (word : Word) (c : ℕ) (cs rest : List ℕ) → cs ≡ c ∷ rest → contains word cs ≡ (begins word cs || contains word rest)
unfolding contains
contains_turn word c cs rest is = rw is refl

pub contains_here : (word : Word) (c : ℕ) (cs rest : List ℕ) → cs ≡ c ∷ rest → begins word cs ≡ true → contains word cs ≡ true
contains_here word c cs rest is here = contains_turn word c cs rest is ∙ rw here refl

pub contains_later : (word : Word) (c : ℕ) (cs rest : List ℕ) → cs ≡ c ∷ rest → begins word cs ≡ false → contains word cs ≡ contains word rest
contains_later word c cs rest is none = contains_turn word c cs rest is ∙ rw none refl

pub contains_end : (word : Word) (cs : List ℕ) → cs ≡ [] → contains word cs ≡ false
unfolding contains
contains_end word cs is = rw is refl

pub split_turn : (word : Word) (found : List ℕ) (c : ℕ) (cs rest : List ℕ) → cs ≡ c ∷ rest → split_from word found cs ≡ cut found (word_at word cs) (split_from word (found ++ c ∷ []) rest)
unfolding split_from
split_turn word found c cs rest is = rw is refl

pub split_here : (word : Word) (found : List ℕ) (c : ℕ) (cs rest after : List ℕ) → cs ≡ c ∷ rest → word_at word cs ≡ Ok after → split_from word found cs ≡ Ok (found, after)
split_here word found c cs rest after is here = split_turn word found c cs rest is ∙ rw here refl

pub split_later : (word : Word) (found : List ℕ) (c : ℕ) (cs rest : List ℕ) → cs ≡ c ∷ rest → word_at word cs ≡ Err Malformed → split_from word found cs ≡ split_from word (found ++ c ∷ []) rest
split_later word found c cs rest is none = split_turn word found c cs rest is ∙ rw none refl

pub split_end : (word : Word) (found cs : List ℕ) → cs ≡ [] → split_from word found cs ≡ Err Malformed
unfolding split_from
split_end word found cs is = rw is refl

pub letters_turn : (ws cs : List ℕ) (i w : ℕ) → i < length ws → w ≡ get_or ws i w → letters_at (drop i ws) cs ≡ (letter_at w cs >>= λ rest. letters_at (drop (i + 1) ws) rest)
unfolding letters_at
letters_turn ws cs i w lt is = at_drop_more (λ ys. letters_at ys cs) ws i w lt ∙ ap (λ x. letter_at x cs >>= λ rest. letters_at (drop (i + 1) ws) rest) (sym is)

pub letters_end : (ws cs : List ℕ) (i : ℕ) → length ws ≤ i → letters_at (drop i ws) cs ≡ Ok cs
unfolding letters_at
letters_end ws cs i le = at_drop_all (λ ys. letters_at ys cs) ws i le
