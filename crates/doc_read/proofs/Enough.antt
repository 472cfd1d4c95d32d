-- How many turns are enough: as many as a text has characters, or more, such as its bytes.
use Rattle.std.proofs.Common.{◌≡◌, ℕ, zero, suc, ◌+◌, ◌-◌, ◌*◌, ◌≤◌, ◌<◌, Bool, true, false, cond, eqb, List, [], ◌∷◌, ◌++◌, length, map, Result, Ok, Err, refl, sym, ap, ◌∙◌, arith, inl, inr}
use Rattle.std.specs.Prelude.{encode_utf8, encode_utf8_all}
use Rattle.std.specs.Str.{IsUtf8, chars, chars_after, continuation_len, lead_bits}
use Rattle.std.proofs.lemmas.Str.{encodes-chars}
use Rattle.std.proofs.lemmas.List.{length-append, nil_from_length}
use Rattle.wfs_ends.specs.Read.{◌>>=◌, until}
use Rattle.wfs_ends.proofs.Turns.{bind_ok, chosen}
use Rattle.doc_read.specs.declared.fault.DocFault.{DocFault}
use Rattle.doc_read.specs.declared.fault.DocFault.TheVariants.{Malformed}
use Rattle.doc_read.specs.declared.lex.Class.TheVariants.{Space, NameStart, Text, Value}
use Rattle.doc_read.specs.declared.scope.Bound.{Bound}
use Rattle.doc_read.specs.Chars.{holds, starts, split_front, skip_space}
use Rattle.doc_read.specs.Lex.{Part, part, plain, reference_at, value_piece, value_turn, inside_value, Raw, raw_attribute_at, attributes_at}
use Rattle.doc_read.specs.Element.{Inside, begun, element_at, marked_at, run_at, markup_at, piece_at, turn_at, content_at}
use Rattle.doc_read.specs.Document.{misc_turn, misc_at}
use Rattle.doc_read.specs.Grammar.{SpellsRaw, print, print_piece, print_reference, spell, print_written}
use Rattle.doc_read.proofs.Marks.{done}
use Rattle.doc_read.proofs.Takes.{is_it, split_takes, skip_takes, reference_takes, raw_takes}
use Rattle.doc_read.proofs.Complete.{at, some_piece}
use Rattle.doc_read.proofs.Sound.{marked_takes, run_takes, element_sound}
use Rattle.doc_read.proofs.Documents.{misc_piece_takes}

-- ---- characters and bytes

after_length : (n c : ℕ) (bs : List ℕ) → length (chars_after n c bs) ≤ suc (length bs)
after_length zero c [] = omega arith
after_length zero c (b ∷ bs) = omega (arith, after_length (continuation_len b) (lead_bits b) bs)
after_length (suc n) c [] = omega arith
after_length (suc n) c (b ∷ bs) = omega (arith, after_length n (c * 64 + (b - 128)) bs)

pub chars_length : (bs : List ℕ) → length (chars bs) ≤ length bs
unfolding chars
chars_length [] = omega arith
chars_length (b ∷ bs) = after_length (continuation_len b) (lead_bits b) bs

pub no_chars : (bs : List ℕ) → IsUtf8 bs → chars bs ≡ [] → bs ≡ []
no_chars bs text none = sym (encodes-chars bs text) ∙ ap encode_utf8_all none

-- ---- turns that shorten what is left

module _ {A : Type 0} (step : A → Result (Bool × A) DocFault) (size : A → ℕ)
    (shortens : (s t : A) → step s ≡ Ok (false, t) → size t < size s)
    (ends : (s : A) → size s ≡ 0 → step s ≡ Err Malformed) where
  pub until_enough : (n m : ℕ) (s : A) → size s ≤ n → size s ≤ m → until Malformed step n s ≡ until Malformed step m s
  unfolding until
  until_enough zero zero s a b = refl
  until_enough zero (suc m) s a b = rw (ends s (omega arith)) refl
  until_enough (suc n) zero s a b = rw (ends s (omega arith)) refl
  until_enough (suc n) (suc m) s a b = go (step s) refl (until_enough n m)
    where
      go : (r : Result (Bool × A) DocFault) → step s ≡ r → ((t : A) → size t ≤ n → size t ≤ m → until Malformed step n t ≡ until Malformed step m t)
          → (r >>= λ t. cond t.0 (Ok t.1) (until Malformed step n t.1)) ≡ (r >>= λ t. cond t.0 (Ok t.1) (until Malformed step m t.1))
      go (Err e) is again = refl
      go (Ok (true, t)) is again = refl
      go (Ok (false, t)) is again = let l = shortens s t is in again t (omega arith) (omega arith)

not_ended : {A : Type 0} (s t : A) → done {A = Bool × A} (true, s) ≡ done (false, t) → ⊥
not_ended {A = A} s t e = absurd (cc (ap (λ (p : Bool × A). p.0) (is_it {A = Bool × A} (true, s) (false, t) e)))

-- a front of the class is not empty where the class holds
some_front : (c : ℕ) (cs front rest : List ℕ) → c ∷ cs ≡ front ++ rest → (front ≡ [] → ⊥) → length rest < length (c ∷ cs)
some_front c cs [] rest whole some = absurd (some refl)
some_front c cs (d ∷ front) rest whole some = omega (arith, ap length whole, length-append front rest)

clash : (b : Bool) → b ≡ true → b ≡ false → ⊥
clash true e f = absurd cc
clash false e f = absurd cc

-- ---- values

value_shortens : (q : ℕ) (s : Part) (cs : List ℕ) (t : Part) → value_piece q s cs ≡ Ok (false, t) → length t.rest < length cs
value_shortens q s [] t e = absurd cc
value_shortens q s (c ∷ cs) t e =
    let front = (split_front (Value q) (c ∷ cs)).0 in
    let back = (split_front (Value q) (c ∷ cs)).1 in
    let ends : Result (Bool × Part) DocFault = Ok (true, part s.text cs) in
    let refers : Result (Bool × Part) DocFault = reference_at cs >>= λ x. Ok (false, part (s.text ++ encode_utf8 x.0) x.1) in
    let runs : Result (Bool × Part) DocFault = Ok (false, part (s.text ++ encode_utf8_all (map plain front)) back) in
    elim (chosen (eqb c q) ends (cond (eqb c 60) (Err Malformed) (cond (eqb c 38) refers runs)) (Ok (false, t)) e) [
      | inl h ↦ absurd (not_ended (part s.text cs) t h.1)
      | inr g ↦ elim (chosen (eqb c 60) (Err Malformed) (cond (eqb c 38) refers runs) (Ok (false, t)) g.1) [
        | inl h ↦ absurd (cc h.1)
        | inr f ↦ elim (chosen (eqb c 38) refers runs (Ok (false, t)) f.1) [
          | inl h ↦
              let r = bind_ok (reference_at cs) (λ x. Ok (false, part (s.text ++ encode_utf8 x.0) x.1)) (false, t) h.1 in
              let is : r.0.1 ≡ t.rest = ap (λ (p : Bool × Part). p.1.rest) (is_it (false, part (s.text ++ encode_utf8 r.0.0) r.0.1) (false, t) r.2) in
              let k = reference_takes cs r.0.0 r.0.1 r.1 in
              omega (arith, ap length is, ap length k.printed, length-append (print_reference k.reference) (59 ∷ r.0.1))
          | inr h ↦
              let is : back ≡ t.rest = ap (λ (p : Bool × Part). p.1.rest) (is_it (false, part (s.text ++ encode_utf8_all (map plain front)) back) (false, t) h.1) in
              let p = split_takes (Value q) (c ∷ cs) _ _ refl in
              let start : holds (Value q) c ≡ true = rw (g.0, f.0, h.0) refl in
              let some : front ≡ [] → ⊥ = λ none. clash (holds (Value q) c) start (ap (starts (Value q)) (p.0 ∙ ap (λ x. x ++ back) none) ∙ p.2) in
              omega (arith, ap length is, some_front c cs front back p.0 some)
        ]
      ]
    ]

pub value_enough : (q : ℕ) (bs : List ℕ) → until Malformed (value_turn q) (length bs) (part [] (chars bs)) ≡ inside_value q (chars bs)
unfolding value_turn
value_enough q bs =
    until_enough (value_turn q) (λ (s : Part). length s.rest) (λ s t. value_shortens q s s.rest t) (λ s none. rw (nil_from_length s.rest none) refl)
    (length bs) (length (chars bs)) (part [] (chars bs)) (chars_length bs) (omega arith)

-- ---- attributes

raw_long : (text : List ℕ) (r : Raw) → SpellsRaw text r → 2 ≤ length text
raw_long text r s =
    let is : length text ≡ length (spell r.name) + (length s.before + suc (length s.after + suc (length (print_written s.written) + 1))) = ap length s.whole ∙ simp (length-append) (omega arith) in
    omega (arith, is)

raw_shortens : (cs : List ℕ) (r : Raw) (rest : List ℕ) → raw_attribute_at cs ≡ Ok (r, rest) → length rest + 1 < length cs
raw_shortens cs r rest e =
    let k = raw_takes cs r rest e in
    omega (arith, ap length k.2, length-append k.0 rest, raw_long k.0 r k.1)

one_attribute : (n m : ℕ) (found : List Raw) (cs : List ℕ) → ((a : Raw × List ℕ) → raw_attribute_at (skip_space cs) ≡ Ok a → attributes_at n (found ++ a.0 ∷ []) a.1 ≡ attributes_at m (found ++ a.0 ∷ []) a.1) → attributes_at (suc n) found cs ≡ attributes_at (suc m) found cs
unfolding attributes_at
one_attribute n m found cs again = go (raw_attribute_at (skip_space cs)) refl
  where
    go : (r : Result (Raw × List ℕ) DocFault) → raw_attribute_at (skip_space cs) ≡ r
        → cond (starts NameStart (skip_space cs)) (cond (starts Space cs) (r >>= λ a. attributes_at n (found ++ a.0 ∷ []) a.1) (Err Malformed)) (Ok (found, skip_space cs))
        ≡ cond (starts NameStart (skip_space cs)) (cond (starts Space cs) (r >>= λ a. attributes_at m (found ++ a.0 ∷ []) a.1) (Err Malformed)) (Ok (found, skip_space cs))
    go (Err e) is = refl
    go (Ok a) is = rw (again a is) refl

skip_shortens : (cs : List ℕ) → length (skip_space cs) ≤ length cs
skip_shortens cs = let k = skip_takes cs in omega (arith, ap length k.2, length-append k.0 (skip_space cs))

more_attributes : (n m : ℕ) (found : List Raw) (cs : List ℕ) → length cs < n → length cs < m → attributes_at n found cs ≡ attributes_at m found cs
more_attributes zero m found cs a b = absurd (omega arith)
more_attributes (suc n) zero found cs a b = absurd (omega arith)
more_attributes (suc n) (suc m) found cs a b =
    one_attribute n m found cs (λ x read. more_attributes n m (found ++ x.0 ∷ []) x.1 (omega (arith, raw_shortens (skip_space cs) x.0 x.1 read, skip_shortens cs)) (omega (arith, raw_shortens (skip_space cs) x.0 x.1 read, skip_shortens cs)))

enough_attributes : (n m : ℕ) (found : List Raw) (cs : List ℕ) → length cs ≤ n → length cs ≡ m → (m ≡ 0 → n ≡ 0) → attributes_at n found cs ≡ attributes_at m found cs
enough_attributes zero zero found cs a b none = refl
enough_attributes zero (suc m) found cs a b none = absurd (omega arith)
enough_attributes (suc n) zero found cs a b none = absurd (let is = none refl in omega arith)
enough_attributes (suc n) (suc m) found cs a b none =
    one_attribute n m found cs (λ x read. more_attributes n m (found ++ x.0 ∷ []) x.1 (omega (arith, raw_shortens (skip_space cs) x.0 x.1 read, skip_shortens cs)) (omega (arith, raw_shortens (skip_space cs) x.0 x.1 read, skip_shortens cs)))

pub attributes_enough : (bs : List ℕ) → IsUtf8 bs → attributes_at (length bs) [] (chars bs) ≡ attributes_at (length (chars bs)) [] (chars bs)
attributes_enough bs text =
    enough_attributes (length bs) (length (chars bs)) [] (chars bs) (chars_length bs) refl (λ none. ap length (no_chars bs text (nil_from_length (chars bs) none)))

-- ---- content

module _ (d : ℕ) (scope : List Bound) where
  markup_shortens : (s : Inside) (cs : List ℕ) (t : Inside) → markup_at (element_at d scope) s cs ≡ Ok (false, t) → length t.rest ≤ length cs
  markup_shortens s [] t e = absurd cc
  markup_shortens s (x ∷ xs) t e =
      let child_read : Result (Bool × Inside) DocFault = element_at d scope s.seen (x ∷ xs) >>= λ r. Ok (false, at (s.children ++ r.0 ∷ []) s.text r.1 r.2) in
      let marked_read : Result (Bool × Inside) DocFault = marked_at xs >>= λ r. Ok (false, at s.children (s.text ++ encode_utf8_all r.0) s.seen r.1) in
      elim (chosen (eqb x 47) (done (true, at s.children s.text s.seen xs)) (cond (eqb x 33) marked_read child_read) (Ok (false, t)) e) [
        | inl h ↦ absurd (not_ended (at s.children s.text s.seen xs) t h.1)
        | inr h ↦ elim (chosen (eqb x 33) marked_read child_read (Ok (false, t)) h.1) [
          | inl g ↦
              let r = bind_ok (marked_at xs) (λ r. Ok (false, at s.children (s.text ++ encode_utf8_all r.0) s.seen r.1)) (false, t) g.1 in
              let is : r.0.1 ≡ t.rest = ap (λ (p : Bool × Inside). p.1.rest) (is_it (false, at s.children (s.text ++ encode_utf8_all r.0.0) s.seen r.0.1) (false, t) r.2) in
              let k = marked_takes xs r.0.0 r.0.1 r.1 in
              omega (arith, ap length is, ap length k.printed, length-append (print_piece k.piece) r.0.1, some_piece k.piece)
          | inr g ↦
              let r = bind_ok (element_at d scope s.seen (x ∷ xs)) (λ r. Ok (false, at (s.children ++ r.0 ∷ []) s.text r.1 r.2)) (false, t) g.1 in
              let is : r.0.2 ≡ t.rest = ap (λ (p : Bool × Inside). p.1.rest) (is_it (false, at (s.children ++ r.0.0 ∷ []) s.text r.0.1 r.0.2) (false, t) r.2) in
              let m = element_sound d scope s.seen (x ∷ xs) r.0.0 r.0.1 r.0.2 r.1 in
              omega (arith, ap length is, ap length m.printed, length-append (print m.markup) r.0.2)
        ]
      ]

  piece_shortens : (s : Inside) (cs : List ℕ) (t : Inside) → piece_at (element_at d scope) s cs ≡ Ok (false, t) → length t.rest < length cs
  piece_shortens s [] t e = absurd cc
  piece_shortens s (c ∷ cs) t e =
      let refers : Result (Bool × Inside) DocFault = reference_at cs >>= λ x. Ok (false, at s.children (s.text ++ encode_utf8 x.0) s.seen x.1) in
      let runs : Result (Bool × Inside) DocFault = run_at (c ∷ cs) >>= λ x. Ok (false, at s.children (s.text ++ encode_utf8_all x.0) s.seen x.1) in
      elim (chosen (eqb c 60) (markup_at (element_at d scope) s cs) (cond (eqb c 38) refers runs) (Ok (false, t)) e) [
        | inl h ↦ omega (arith, markup_shortens s cs t h.1)
        | inr g ↦ elim (chosen (eqb c 38) refers runs (Ok (false, t)) g.1) [
          | inl h ↦
              let r = bind_ok (reference_at cs) (λ x. Ok (false, at s.children (s.text ++ encode_utf8 x.0) s.seen x.1)) (false, t) h.1 in
              let is : r.0.1 ≡ t.rest = ap (λ (p : Bool × Inside). p.1.rest) (is_it (false, at s.children (s.text ++ encode_utf8 r.0.0) s.seen r.0.1) (false, t) r.2) in
              let k = reference_takes cs r.0.0 r.0.1 r.1 in
              omega (arith, ap length is, ap length k.printed, length-append (print_reference k.reference) (59 ∷ r.0.1))
          | inr h ↦
              let r = bind_ok (run_at (c ∷ cs)) (λ x. Ok (false, at s.children (s.text ++ encode_utf8_all x.0) s.seen x.1)) (false, t) h.1 in
              let is : r.0.1 ≡ t.rest = ap (λ (p : Bool × Inside). p.1.rest) (is_it (false, at s.children (s.text ++ encode_utf8_all r.0.0) s.seen r.0.1) (false, t) r.2) in
              let p = run_takes (c ∷ cs) r.0.0 r.0.1 r.1 in
              let start : holds Text c ≡ true = rw (g.0, h.0) refl in
              let some : r.0.0 ≡ [] → ⊥ = λ none. clash (holds Text c) start (ap (starts Text) (p.1 ∙ ap (λ x. x ++ r.0.1) none) ∙ p.2) in
              omega (arith, ap length is, some_front c cs r.0.0 r.0.1 p.1 some)
        ]
      ]

  pub content_enough : (seen : ℕ) (bs : List ℕ) → until Malformed (turn_at (element_at d scope)) (length bs) (begun seen (chars bs)) ≡ content_at (element_at d scope) seen (chars bs)
  unfolding turn_at content_at
  content_enough seen bs =
      until_enough (turn_at (element_at d scope)) (λ (s : Inside). length s.rest) (λ s t. piece_shortens s s.rest t) (λ s none. rw (nil_from_length s.rest none) refl)
      (length bs) (length (chars bs)) (begun seen (chars bs)) (chars_length bs) (omega arith)

-- ---- white space and comments

misc_shortens : (cs t : List ℕ) → misc_turn cs ≡ Ok (false, t) → length t < length cs
unfolding misc_turn
misc_shortens cs t e =
    elim (misc_piece_takes (skip_space cs) false t e) [
      | inl h ↦ absurd (cc h.0)
      | inr h ↦ omega (arith, skip_shortens cs, ap length h.1.printed, length-append h.1.text (45 ∷ 45 ∷ 62 ∷ t))
    ]

pub misc_enough : (bs : List ℕ) → until Malformed misc_turn (length bs + 1) (chars bs) ≡ misc_at (chars bs)
misc_enough bs =
    until_enough misc_turn (λ cs. length cs + 1) (λ cs t e. omega (arith, misc_shortens cs t e)) (λ cs none. absurd (omega arith))
    (length bs + 1) (length (chars bs) + 1) (chars bs) (omega (arith, chars_length bs)) (omega arith)
