-- Words that are found where they stand, and what is found is so.
use Rattle.std.proofs.Common.{◌≡◌, ℕ, ◌⊎◌, inl, inr, List, [], ◌∷◌, ◌++◌, Bool, true, false, cond, ◌&&◌, ◌||◌, eqb, Result, Ok, Err, refl, sym, ap, ◌∙◌, append_assoc, arith}
use Rattle.std.proofs.lemmas.Bool.{eqb-true}
use Rattle.std.proofs.lemmas.Bool.Decides.{nat_tests}
use Rattle.std.proofs.lemmas.List.{append-nil}
use Rattle.wfs_ends.specs.Read.{◌>>=◌}
use Rattle.wfs_ends.proofs.Turns.{bind_ok, if_ok, ok_is}
use Rattle.doc_read.specs.declared.fault.DocFault.{DocFault}
use Rattle.doc_read.specs.declared.fault.DocFault.TheVariants.{Malformed}
use Rattle.doc_read.specs.declared.word.Word.{Word}
use Rattle.doc_read.specs.declared.word.Word.TheVariants.{Dashes, CommentEnd, SectionEnd}
use Rattle.doc_read.specs.Read.{Reads}
use Rattle.doc_read.specs.Chars.{expected_at, letters, letter_at, letters_at, word_at, is_read, begins, contains, cut, split_from, split_word}

abbrev pub done : {A : Type 0} → A → Result A DocFault
done x = Ok x

pub same_eqb : (n : ℕ) → eqb n n ≡ true
same_eqb n = grind (arith, nat_tests)

pub expected_takes : (c : ℕ) (cs rest : List ℕ) → expected_at c cs ≡ Ok rest → cs ≡ c ∷ rest
expected_takes c [] rest e = absurd cc
expected_takes c (d ∷ cs) rest e =
    let g = if_ok (eqb d c) (done cs) Malformed rest e in
    rw (eqb-true d c g.0, ok_is DocFault cs rest g.1) refl

-- ---- words

pub word_again : (ws rest : List ℕ) → letters_at ws (ws ++ rest) ≡ Ok rest
unfolding letters_at letter_at
word_again [] rest = refl
word_again (w ∷ ws) rest = rw (same_eqb w) (word_again ws rest)

pub word_takes : (ws cs rest : List ℕ) → letters_at ws cs ≡ Ok rest → cs ≡ ws ++ rest
unfolding letters_at letter_at
word_takes [] cs rest e = ok_is DocFault cs rest e
word_takes (w ∷ ws) cs rest e =
    let b = bind_ok (expected_at w cs) (λ more. letters_at ws more) rest e in
    expected_takes w cs b.0 b.1 ∙ ap (λ (x : List ℕ). w ∷ x) (word_takes ws b.0 rest b.2)

pub read_is : (r : Result (List ℕ) DocFault) → is_read r ≡ true → (rest : List ℕ) × (r ≡ Ok rest)
read_is (Ok rest) h = (rest, refl)
read_is (Err e) h = absurd cc

true_or_false : (b : Bool) → (b ≡ true) ⊎ (b ≡ false)
true_or_false true = inl refl
true_or_false false = inr refl

-- where more follows, no fewer words begin
begins_less : (w : Word) (cs more : List ℕ) → begins w (cs ++ more) ≡ false → begins w cs ≡ false
begins_less w cs more none =
    elim (true_or_false (begins w cs)) [
      | inl is ↦
          let r = read_is (word_at w cs) is in
          let front : cs ++ more ≡ letters w ++ (r.0 ++ more) = ap (λ (x : List ℕ). x ++ more) (word_takes (letters w) cs r.0 r.1) ∙ append_assoc (letters w) r.0 more in
          let reads : word_at w (cs ++ more) ≡ Ok (r.0 ++ more) = ap (word_at w) front ∙ word_again (letters w) (r.0 ++ more) in
          absurd (clash (sym none ∙ ap is_read reads))
      | inr is ↦ is
    ]
  where
    clash : false ≡ true → ⊥
    clash e = absurd cc

-- ---- the first place of a word

cut_later : (found : List ℕ) (r : Result (List ℕ) DocFault) (later : Reads (List ℕ)) → is_read r ≡ false → cut found r later ≡ later
cut_later found (Ok rest) later none = absurd cc
cut_later found (Err e) later none = refl

cut_takes : (found : List ℕ) (r : Result (List ℕ) DocFault) (later : Reads (List ℕ)) (front rest : List ℕ) → cut found r later ≡ Ok (front, rest) → ((r ≡ Ok rest) × (front ≡ found)) ⊎ ((is_read r ≡ false) × (later ≡ Ok (front, rest)))
cut_takes found (Ok x) later front rest e =
    let is = ok_is DocFault (found, x) (front, rest) e in
    inl (ap (λ (p : List ℕ × List ℕ). done p.1) is, sym (ap (λ (p : List ℕ × List ℕ). p.0) is))
cut_takes found (Err d) later front rest e = inr (refl, e)

pub neither : (a b : Bool) → (a || b) ≡ false → (a ≡ false) × (b ≡ false)
neither true b h = absurd cc
neither false b h = (refl, h)

pub split_takes_word : (w : Word) (found cs front rest : List ℕ) → split_from w found cs ≡ Ok (front, rest) → (text : List ℕ) × (front ≡ found ++ text) × (contains w text ≡ false) × (cs ≡ text ++ (letters w ++ rest))
unfolding split_from contains
split_takes_word w found [] front rest e = absurd cc
split_takes_word w found (c ∷ cs) front rest e =
    elim (cut_takes found (word_at w (c ∷ cs)) (split_from w (found ++ c ∷ []) cs) front rest e) [
      | inl h ↦ ([], h.1 ∙ sym (append-nil found), refl, word_takes (letters w) (c ∷ cs) rest h.0)
      | inr h ↦
          let k = split_takes_word w (found ++ c ∷ []) cs front rest h.1 in
          let whole : c ∷ cs ≡ (c ∷ k.0) ++ (letters w ++ rest) = ap (λ (x : List ℕ). c ∷ x) k.3 in
          let no : begins w (c ∷ k.0) ≡ false = begins_less w (c ∷ k.0) (letters w ++ rest) (ap (begins w) (sym whole) ∙ h.0) in
          (c ∷ k.0, k.1 ∙ append_assoc found (c ∷ []) k.0, rw (no, k.2) refl, whole)
    ]

split_by : (w mark : Word) (rest : List ℕ) → ((found : List ℕ) → split_from w found (letters w ++ rest) ≡ Ok (found, rest)) → ((c : ℕ) (text : List ℕ) → begins mark (c ∷ text) ≡ false → begins w (c ∷ (text ++ (letters w ++ rest))) ≡ false) → (found text : List ℕ) → contains mark text ≡ false → split_from w found (text ++ (letters w ++ rest)) ≡ Ok (found ++ text, rest)
unfolding split_from contains
split_by w mark rest here clear found [] none = here found ∙ ap (λ (x : List ℕ). done (x, rest)) (sym (append-nil found))
split_by w mark rest here clear found (c ∷ text) none =
    let p = neither (begins mark (c ∷ text)) (contains mark text) none in
    cut_later found (word_at w (c ∷ (text ++ (letters w ++ rest)))) _ (clear c text p.0)
    ∙ split_by w mark rest here clear (found ++ c ∷ []) text p.1
    ∙ ap (λ (x : List ℕ). done (x, rest)) (append_assoc found (c ∷ []) text)

-- ---- which words begin where

pub begins_cons : (w : ℕ) (ws : List ℕ) (c : ℕ) (cs : List ℕ) → is_read (letters_at (w ∷ ws) (c ∷ cs)) ≡ (eqb c w && is_read (letters_at ws cs))
unfolding letters_at letter_at
begins_cons w ws c cs = go (eqb c w)
  where
    go : (b : Bool) → is_read (cond b (done cs) (Err Malformed) >>= λ rest. letters_at ws rest) ≡ (b && is_read (letters_at ws cs))
    go true = refl
    go false = refl

and_true : (b : Bool) → (b && true) ≡ b
and_true true = refl
and_true false = refl

pub and_false : (b : Bool) → (b && false) ≡ false
and_false true = refl
and_false false = refl

nothing_left : (cs : List ℕ) → is_read (letters_at [] cs) ≡ true
unfolding letters_at
nothing_left cs = refl

begins_two : (v w c d : ℕ) (cs : List ℕ) → is_read (letters_at (v ∷ w ∷ []) (c ∷ d ∷ cs)) ≡ (eqb c v && eqb d w)
begins_two v w c d cs =
    begins_cons v (w ∷ []) c (d ∷ cs)
    ∙ ap (λ (b : Bool). eqb c v && b) (begins_cons w [] d cs ∙ ap (λ (b : Bool). eqb d w && b) (nothing_left cs) ∙ and_true (eqb d w))

begins_three : (u v w c d e : ℕ) (cs : List ℕ) → is_read (letters_at (u ∷ v ∷ w ∷ []) (c ∷ d ∷ e ∷ cs)) ≡ (eqb c u && (eqb d v && eqb e w))
begins_three u v w c d e cs = begins_cons u (v ∷ w ∷ []) c (d ∷ e ∷ cs) ∙ ap (λ (b : Bool). eqb c u && b) (begins_two v w d e cs)

section_clear : (rest : List ℕ) (c : ℕ) (text : List ℕ) → begins SectionEnd (c ∷ text) ≡ false → begins SectionEnd (c ∷ (text ++ (letters SectionEnd ++ rest))) ≡ false
section_clear rest c [] none = begins_three 93 93 62 c 93 93 (62 ∷ rest) ∙ and_false (eqb c 93)
section_clear rest c (d ∷ []) none = begins_three 93 93 62 c d 93 (93 ∷ 62 ∷ rest) ∙ ap (λ (b : Bool). eqb c 93 && b) (and_false (eqb d 93)) ∙ and_false (eqb c 93)
section_clear rest c (d ∷ e ∷ es) none = begins_three 93 93 62 c d e (es ++ (letters SectionEnd ++ rest)) ∙ sym (begins_three 93 93 62 c d e es) ∙ none

less : (a b c : Bool) → (a && b) ≡ false → (a && (b && c)) ≡ false
less true true c h = absurd cc
less true false c h = refl
less false b c h = refl

comment_clear : (rest : List ℕ) (c : ℕ) (text : List ℕ) → begins Dashes (c ∷ text) ≡ false → begins CommentEnd (c ∷ (text ++ (letters CommentEnd ++ rest))) ≡ false
comment_clear rest c [] none = begins_three 45 45 62 c 45 45 (62 ∷ rest) ∙ and_false (eqb c 45)
comment_clear rest c (d ∷ []) none = begins_three 45 45 62 c d 45 (45 ∷ 62 ∷ rest) ∙ less (eqb c 45) (eqb d 45) false (sym (begins_two 45 45 c d []) ∙ none)
comment_clear rest c (d ∷ e ∷ es) none = begins_three 45 45 62 c d e (es ++ (letters CommentEnd ++ rest)) ∙ less (eqb c 45) (eqb d 45) (eqb e 62) (sym (begins_two 45 45 c d (e ∷ es)) ∙ none)

section_here : (rest found : List ℕ) → split_from SectionEnd found (letters SectionEnd ++ rest) ≡ Ok (found, rest)
unfolding split_from
section_here rest found = ap (λ (r : Result (List ℕ) DocFault). cut found r (split_from SectionEnd (found ++ 93 ∷ []) (93 ∷ 62 ∷ rest))) (word_again (letters SectionEnd) rest)

comment_here : (rest found : List ℕ) → split_from CommentEnd found (letters CommentEnd ++ rest) ≡ Ok (found, rest)
unfolding split_from
comment_here rest found = ap (λ (r : Result (List ℕ) DocFault). cut found r (split_from CommentEnd (found ++ 45 ∷ []) (45 ∷ 62 ∷ rest))) (word_again (letters CommentEnd) rest)

pub section_split : (text rest : List ℕ) → contains SectionEnd text ≡ false → split_word SectionEnd (text ++ (letters SectionEnd ++ rest)) ≡ Ok (text, rest)
section_split text rest none = split_by SectionEnd SectionEnd rest (section_here rest) (section_clear rest) [] text none

pub comment_split : (text rest : List ℕ) → contains Dashes text ≡ false → split_word CommentEnd (text ++ (letters CommentEnd ++ rest)) ≡ Ok (text, rest)
comment_split text rest none = split_by CommentEnd Dashes rest (comment_here rest) (comment_clear rest) [] text none
