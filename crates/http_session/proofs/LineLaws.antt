-- The chunk lines that are read byte by byte are those of the grammar.
use Rattle.std.proofs.Common.{◌≡◌, ◌≢◌, ℕ, ◌+◌, ◌*◌, ◌<◌, ◌≤◌, Bool, true, false, not, ◌==◌, List, [], ◌∷◌, ◌++◌, length, refl, sym, ap, ap₂, subst, ◌∙◌, arith, append_assoc, append-nil, Option, Some, None, if◌then◌else◌, All, IsTrue}
use Rattle.std.proofs.lemmas.Bool.{and_parts}
use Rattle.std.proofs.lemmas.Bool.Decides.{nat_tests}
use Rattle.std.proofs.lemmas.List.{length-append, nil_from_length}
use Rattle.std.proofs.lemmas.List.Sums.{AllPass-from_list_all}
use Rattle.std.specs.List.{list_all}
use Rattle.std.specs.Char.{is_ascii_hexdigit, digit_value}
use Rattle.std.specs.Str.Parse.{digits_value}
use Rattle.httparse.proofs.ChunkLemmas.{digits_value_after_push}
use Rattle.httparse.specs.Grammar.{is_ows, ChunkLine, chunk_size, print_chunk_line, print_extension, is_extension_byte, IsExtension, ReadsChunkLine, HasNoChunkLine, NeverHasChunkLine}
use Rattle.http_session.specs.declared.line.LineState.{LineState}
use Rattle.http_session.specs.declared.line.LineState.TheVariants as state
use Rattle.http_session.specs.declared.line.LineStep.{LineStep}
use Rattle.http_session.specs.declared.line.LineStep.TheVariants as step
use Rattle.http_session.specs.Cuts.{StartsOutside}
use Rattle.http_session.specs.Chunks.{line, IsLine}
use Rattle.http_session.specs.Lines.{pad_step, line_step, line_then, line_from, line_of}
use Rattle.http_session.proofs.Cuts.{cut_once}
use Rattle.http_session.proofs.Bad.{all_front, all_both, all_weaker, all_pass}

-- ---- lines in parts

abbrev all_text : Option (List ℕ) → Type 0
all_text None = Unit {0}
all_text (Some text) = list_all is_extension_byte text ≡ true

-- digits of this value
record HasDigits (digits : List ℕ) (size : ℕ) : Type 0 where
  hex : list_all is_ascii_hexdigit digits ≡ true
  some : 0 < length digits
  few : length digits ≤ 16
  value : size ≡ digits_value 16 digits

from_all : (p : ℕ → Bool) (xs : List ℕ) → list_all p xs ≡ true → All (λ b. IsTrue (p b)) xs
from_all p xs all = AllPass-from_list_all p xs all

is_text : (e : Option (List ℕ)) → all_text e → IsExtension e
is_text None all = tt
is_text (Some text) all = from_all is_extension_byte text all

make_line : (digits pad : List ℕ) (e : Option (List ℕ)) (size : ℕ) (rest : List ℕ) → HasDigits digits size → list_all is_ows pad ≡ true → all_text e
    → (l : ChunkLine) × ReadsChunkLine (digits ++ (pad ++ (print_extension e ++ 13 ∷ 10 ∷ rest))) l rest × (size ≡ chunk_size l)
unfolding print_chunk_line
make_line digits pad e size rest has ows text = (
  record { digits = digits; pad = pad; extension = e },
  (record { digits = (has.some, has.few, from_all is_ascii_hexdigit digits has.hex); pad = from_all is_ows pad ows; extension = is_text e text }, simp append_assoc refl),
  has.value,
)

-- what a line of the grammar is
record Parts (bytes rest : List ℕ) : Type 0 where
  digits : List ℕ
  pad : List ℕ
  text : Option (List ℕ)
  hex : list_all is_ascii_hexdigit digits ≡ true
  some : 0 < length digits
  few : length digits ≤ 16
  ows : list_all is_ows pad ≡ true
  all : all_text text
  whole : bytes ≡ digits ++ (pad ++ (print_extension text ++ 13 ∷ 10 ∷ rest))

text_all : (e : Option (List ℕ)) → IsExtension e → all_text e
text_all None all = tt
text_all (Some text) all = all_pass is_extension_byte is_extension_byte text (λ x is. is) all

parts_of_line : (bytes rest : List ℕ) (l : ChunkLine) → ReadsChunkLine bytes l rest → Parts bytes rest
unfolding print_chunk_line
parts_of_line bytes rest l (is, whole) = record {
  digits = l.digits;
  pad = l.pad;
  text = l.extension;
  hex = all_pass is_ascii_hexdigit is_ascii_hexdigit l.digits (λ x is. is) is.digits.2;
  some = is.digits.0;
  few = is.digits.1;
  ows = all_pass is_ows is_ows l.pad (λ x is. is) is.pad;
  all = text_all l.extension is.extension;
  whole = whole ∙ simp append_assoc refl;
}

never_from : (bytes : List ℕ) → ((more rest : List ℕ) → ¬ (Parts (bytes ++ more) rest)) → NeverHasChunkLine bytes
never_from bytes none = λ more l rest reads. none more rest (parts_of_line (bytes ++ more) rest l reads)

-- ---- alignment

text_start : (e : Option (List ℕ)) (rest : List ℕ) (p : ℕ → Bool) → p 13 ≡ false → p 59 ≡ false → StartsOutside p (print_extension e ++ 13 ∷ rest)
text_start None rest p cr semi = cr
text_start (Some text) rest p cr semi = semi

ows_not_hex : (b : ℕ) → is_ows b ≡ true → is_ascii_hexdigit b ≡ false
ows_not_hex b is = grind (arith, nat_tests)

pad_start : (pad tail : List ℕ) → list_all is_ows pad ≡ true → StartsOutside is_ascii_hexdigit tail → StartsOutside is_ascii_hexdigit (pad ++ tail)
pad_start [] tail ows out = out
pad_start (b ∷ pad) tail ows out = ows_not_hex b (and_parts (is_ows b) (list_all is_ows pad) ows).0

-- two ways to cut one text into digits, blanks and a rest are one
aligned : (bytes rest digits pad tail : List ℕ) (p : Parts bytes rest) → bytes ≡ digits ++ (pad ++ tail) → list_all is_ascii_hexdigit digits ≡ true → list_all is_ows pad ≡ true
    → StartsOutside is_ascii_hexdigit (pad ++ tail) → StartsOutside is_ows tail → print_extension p.text ++ 13 ∷ 10 ∷ rest ≡ tail
aligned bytes rest digits pad tail p whole hex ows out stop =
    let one = cut_once is_ascii_hexdigit p.digits (p.pad ++ (print_extension p.text ++ 13 ∷ 10 ∷ rest)) digits (pad ++ tail) (sym p.whole ∙ whole) p.hex hex
    (pad_start p.pad (print_extension p.text ++ 13 ∷ 10 ∷ rest) p.ows (text_start p.text (10 ∷ rest) is_ascii_hexdigit refl refl)) out in
    (cut_once is_ows p.pad (print_extension p.text ++ 13 ∷ 10 ∷ rest) pad tail one.1 p.ows ows (text_start p.text (10 ∷ rest) is_ows refl refl) stop).1

-- the rest behind the blanks is an extension or a CR
starts_text : (e : Option (List ℕ)) (rest tail : List ℕ) (b : ℕ) → print_extension e ++ 13 ∷ 10 ∷ rest ≡ b ∷ tail → b ≢ 59 → b ≢ 13 → ⊥
starts_text None rest tail b e semi cr = cr (cc)
starts_text (Some text) rest tail b e semi cr = semi (cc)

-- an LF within an extension
lf_in_text : (e : Option (List ℕ)) (rest text tail : List ℕ) → all_text e → list_all is_extension_byte text ≡ true → print_extension e ++ 13 ∷ 10 ∷ rest ≡ 59 ∷ (text ++ 10 ∷ tail) → ⊥
lf_in_text None rest text tail all own e = absurd cc
lf_in_text (Some t) rest text tail all own e =
    let same : t ++ 13 ∷ 10 ∷ rest ≡ text ++ 10 ∷ tail = cc in
    let last = (cut_once is_extension_byte t (13 ∷ 10 ∷ rest) text (10 ∷ tail) same all own refl refl).1 in
    absurd cc

-- what stands behind the CR
behind_return : (e f : Option (List ℕ)) (rest tail : List ℕ) (b : ℕ) → all_text e → all_text f → print_extension e ++ 13 ∷ 10 ∷ rest ≡ print_extension f ++ 13 ∷ b ∷ tail → b ≡ 10
behind_return None None rest tail b x y e = cc
behind_return None (Some t) rest tail b x y e = absurd cc
behind_return (Some t) None rest tail b x y e = absurd cc
behind_return (Some t) (Some u) rest tail b x y e =
    let same : t ++ 13 ∷ 10 ∷ rest ≡ u ++ 13 ∷ b ∷ tail = cc in
    let last = (cut_once is_extension_byte t (13 ∷ 10 ∷ rest) u (13 ∷ b ∷ tail) same x y refl refl).1 in
    cc

-- a run is no longer than the whole run
run_within : (p : ℕ → Bool) (a b c d : List ℕ) → a ++ b ≡ c ++ d → list_all p c ≡ true → StartsOutside p b → length c ≤ length a
run_within p a b [] d e all out = omega arith
run_within p [] [] (y ∷ c) d e all out = absurd cc
run_within p [] (z ∷ b) (y ∷ c) d e all out =
    let same : z ≡ y = cc in
    let is = (and_parts (p y) (list_all p c) all).0 in
    absurd cc
run_within p (x ∷ a) b (y ∷ c) d e all out =
    let rest : a ++ b ≡ c ++ d = cc in
    let k = run_within p a b c d rest (and_parts (p y) (list_all p c) all).1 out in
    omega arith

-- ---- states

-- the bytes of a line so far
abbrev Was : LineState → List ℕ → Type 0
Was (state.Digits count size) front = (list_all is_ascii_hexdigit front ≡ true) × (length front ≡ count) × (count ≤ 16) × (size ≡ digits_value 16 front)
Was (state.Pad size) front = (digits : List ℕ) × (b : ℕ) × (pad : List ℕ) × HasDigits digits size × (list_all is_ows (b ∷ pad) ≡ true) × (front ≡ digits ++ (b ∷ pad))
Was (state.Text size) front = (digits : List ℕ) × (pad : List ℕ) × (text : List ℕ) × HasDigits digits size × (list_all is_ows pad ≡ true) × (list_all is_extension_byte text ≡ true) × (front ≡ digits ++ (pad ++ 59 ∷ text))
Was (state.Return size) front = (digits : List ℕ) × (pad : List ℕ) × (e : Option (List ℕ)) × HasDigits digits size × (list_all is_ows pad ≡ true) × all_text e × (front ≡ digits ++ (pad ++ (print_extension e ++ 13 ∷ [])))

-- ---- a step goes on

-- behind the digits and some blanks
after_digits : (digits pad : List ℕ) (size b : ℕ) (u : LineState) → HasDigits digits size → list_all is_ows pad ≡ true → step.Goes u ≡ pad_step size b → Was u (digits ++ (pad ++ b ∷ []))
after_digits digits pad size b u has ows e = by (is_ows b) (b == 59) (b == 13) refl refl refl e
  where
    blank : (ps : List ℕ) → list_all is_ows ps ≡ true → is_ows b ≡ true → Was (state.Pad size) (digits ++ (ps ++ b ∷ []))
    blank [] all is = (digits, b, [], has, rw is refl, refl)
    blank (p ∷ ps) all is = (digits, p, ps ++ b ∷ [], has, all_both is_ows (p ∷ ps) (b ∷ []) all (rw is refl), refl)

    by : (x y z : Bool) → is_ows b ≡ x → (b == 59) ≡ y → (b == 13) ≡ z
        → step.Goes u ≡ (if x then step.Goes (state.Pad size) else if y then step.Goes (state.Text size) else if z then step.Goes (state.Return size) else step.Bad)
        → Was u (digits ++ (pad ++ b ∷ []))
    by true y z h k m e = let same : state.Pad size ≡ u = cc in subst (λ s. Was s (digits ++ (pad ++ b ∷ []))) same (blank pad ows h)
    by false true z h k m e =
        let same : state.Text size ≡ u = cc in
        let is : b ≡ 59 = grind (arith, nat_tests, k) in
        subst (λ s. Was s (digits ++ (pad ++ b ∷ []))) same (digits, pad, [], has, ows, refl, ap (λ (x : ℕ). digits ++ (pad ++ x ∷ [])) is)
    by false false true h k m e =
        let same : state.Return size ≡ u = cc in
        let is : b ≡ 13 = grind (arith, nat_tests, m) in
        subst (λ s. Was s (digits ++ (pad ++ b ∷ []))) same (digits, pad, None, has, ows, tt, ap (λ (x : ℕ). digits ++ (pad ++ x ∷ [])) is)
    by false false false h k m e = absurd cc

digits_of : (count size : ℕ) (front : List ℕ) → Was (state.Digits count size) front → (count == 0) ≡ false → HasDigits front size
digits_of count size front (hex, long, few, value) some = record { hex = hex; some = grind (arith, nat_tests, some, long); few = omega (arith, long, few); value = value }

goes_on : (st u : LineState) (b : ℕ) (front : List ℕ) → Was st front → step.Goes u ≡ line_step st b → Was u (front ++ b ∷ [])
goes_on (state.Digits count size) u b front (hex, long, few, value) e = by (is_ascii_hexdigit b) (count == 16) (count == 0) refl refl refl e
  where
    by : (x y z : Bool) → is_ascii_hexdigit b ≡ x → (count == 16) ≡ y → (count == 0) ≡ z
        → step.Goes u ≡ (if x then if y then step.Bad else step.Goes (state.Digits (count + 1) (size * 16 + digit_value b)) else if z then step.Bad else pad_step size b)
        → Was u (front ++ b ∷ [])
    by true true z h k m e = absurd cc
    by true false z h k m e =
        let same : state.Digits (count + 1) (size * 16 + digit_value b) ≡ u = cc in
        let l = length-append front (b ∷ []) in
        let n : length (b ∷ []) ≡ 1 = refl in
        subst (λ s. Was s (front ++ b ∷ [])) same (
          all_both is_ascii_hexdigit front (b ∷ []) hex (rw h refl),
          omega (arith, l, n, long),
          grind (arith, nat_tests, k, few),
          ap (λ (x : ℕ). x * 16 + digit_value b) value ∙ sym (digits_value_after_push 16 0 front b),
        )
    by false y true h k m e = absurd cc
    by false y false h k m e = after_digits front [] size b u (digits_of count size front (hex, long, few, value) m) refl e
goes_on (state.Pad size) u b front (digits, p, pad, has, ows, whole) e =
    subst (λ x. Was u x) (sym (ap (λ (x : List ℕ). x ++ b ∷ []) whole ∙ append_assoc digits (p ∷ pad) (b ∷ []))) (after_digits digits (p ∷ pad) size b u has ows e)
goes_on (state.Text size) u b front (digits, pad, text, has, ows, all, whole) e = by (b == 13) (b == 10) refl refl e
  where
    joined : front ++ b ∷ [] ≡ digits ++ (pad ++ 59 ∷ (text ++ b ∷ []))
    joined = ap (λ (x : List ℕ). x ++ b ∷ []) whole ∙ simp append_assoc refl

    by : (x y : Bool) → (b == 13) ≡ x → (b == 10) ≡ y → step.Goes u ≡ (if x then step.Goes (state.Return size) else if y then step.Bad else step.Goes (state.Text size)) → Was u (front ++ b ∷ [])
    by true y h k e =
        let same : state.Return size ≡ u = cc in
        let is : b ≡ 13 = grind (arith, nat_tests, h) in
        subst (λ s. Was s (front ++ b ∷ [])) same (digits, pad, Some text, has, ows, all, joined ∙ ap (λ (x : ℕ). digits ++ (pad ++ 59 ∷ (text ++ x ∷ []))) is)
    by false true h k e = absurd cc
    by false false h k e =
        let same : state.Text size ≡ u = cc in
        subst (λ s. Was s (front ++ b ∷ [])) same (digits, pad, text ++ b ∷ [], has, ows, all_both is_extension_byte text (b ∷ []) all (rw (h, k) refl), joined)
goes_on (state.Return size) u b front was e = by (b == 10) e
  where
    by : (x : Bool) → step.Goes u ≡ (if x then step.Ends size else step.Bad) → Was u (front ++ b ∷ [])
    by true e = absurd cc
    by false e = absurd cc

-- ---- a step ends

no_end : (size n b : ℕ) → step.Ends n ≡ pad_step size b → ⊥
no_end size n b e = by (is_ows b) (b == 59) (b == 13) e
  where
    by : (x y z : Bool) → step.Ends n ≡ (if x then step.Goes (state.Pad size) else if y then step.Goes (state.Text size) else if z then step.Goes (state.Return size) else step.Bad) → ⊥
    by true y z e = cc
    by false true z e = cc
    by false false true e = cc
    by false false false e = cc

ends_line : (st : LineState) (n b : ℕ) (front rest : List ℕ) → Was st front → step.Ends n ≡ line_step st b → IsLine (front ++ b ∷ rest) (line n rest)
ends_line (state.Digits count size) n b front rest was e = by (is_ascii_hexdigit b) (count == 16) (count == 0) e
  where
    by : (x y z : Bool) → step.Ends n ≡ (if x then if y then step.Bad else step.Goes (state.Digits (count + 1) (size * 16 + digit_value b)) else if z then step.Bad else pad_step size b) → IsLine (front ++ b ∷ rest) (line n rest)
    by true true z e = absurd cc
    by true false z e = absurd cc
    by false y true e = absurd cc
    by false y false e = absurd (no_end size n b e)
ends_line (state.Pad size) n b front rest was e = absurd (no_end size n b e)
ends_line (state.Text size) n b front rest was e = by (b == 13) (b == 10) e
  where
    by : (x y : Bool) → step.Ends n ≡ (if x then step.Goes (state.Return size) else if y then step.Bad else step.Goes (state.Text size)) → IsLine (front ++ b ∷ rest) (line n rest)
    by true y e = absurd cc
    by false true e = absurd cc
    by false false e = absurd cc
ends_line (state.Return size) n b front rest (digits, pad, text, has, ows, all, whole) e = by (b == 10) refl e
  where
    by : (x : Bool) → (b == 10) ≡ x → step.Ends n ≡ (if x then step.Ends size else step.Bad) → IsLine (front ++ b ∷ rest) (line n rest)
    by true h e =
        let same : size ≡ n = cc in
        let is : b ≡ 10 = grind (arith, nat_tests, h) in
        let joined : digits ++ (pad ++ (print_extension text ++ 13 ∷ 10 ∷ rest)) ≡ front ++ b ∷ rest =
        sym (ap₂ (λ (x : List ℕ) (y : ℕ). x ++ y ∷ rest) whole is ∙ simp append_assoc refl) in
        let made = make_line digits pad text size rest has ows all in
        subst (λ x. IsLine x (line n rest)) joined (made.0, made.1, sym same ∙ made.2)
    by false h e = absurd cc

-- ---- a step is bad

pad_bad : (digits pad : List ℕ) (size b : ℕ) (rest : List ℕ) → HasDigits digits size → list_all is_ows pad ≡ true → ((x : List ℕ) → StartsOutside is_ascii_hexdigit (pad ++ b ∷ x)) → step.Bad ≡ pad_step size b → NeverHasChunkLine ((digits ++ pad) ++ b ∷ rest)
pad_bad digits pad size b rest has ows out e = by (is_ows b) (b == 59) (b == 13) refl refl refl e
  where
    by : (x y z : Bool) → is_ows b ≡ x → (b == 59) ≡ y → (b == 13) ≡ z
        → step.Bad ≡ (if x then step.Goes (state.Pad size) else if y then step.Goes (state.Text size) else if z then step.Goes (state.Return size) else step.Bad) → NeverHasChunkLine ((digits ++ pad) ++ b ∷ rest)
    by true y z h k m e = absurd cc
    by false true z h k m e = absurd cc
    by false false true h k m e = absurd cc
    by false false false h k m e = never_from _ (λ more r p.
        let joined : ((digits ++ pad) ++ b ∷ rest) ++ more ≡ digits ++ (pad ++ (b ∷ (rest ++ more))) = simp append_assoc refl in
        let other : b ≢ 59 = grind (arith, nat_tests, k) in
        let another : b ≢ 13 = grind (arith, nat_tests, m) in
        starts_text p.text r (rest ++ more) b (aligned _ r digits pad (b ∷ (rest ++ more)) p joined has.hex ows (out (rest ++ more)) h) other another)

bad_line : (st : LineState) (b : ℕ) (front rest : List ℕ) → Was st front → step.Bad ≡ line_step st b → NeverHasChunkLine (front ++ b ∷ rest)
bad_line (state.Digits count size) b front rest (hex, long, few, value) e = by (is_ascii_hexdigit b) (count == 16) (count == 0) refl refl refl e
  where
    by : (x y z : Bool) → is_ascii_hexdigit b ≡ x → (count == 16) ≡ y → (count == 0) ≡ z
        → step.Bad ≡ (if x then if y then step.Bad else step.Goes (state.Digits (count + 1) (size * 16 + digit_value b)) else if z then step.Bad else pad_step size b) → NeverHasChunkLine (front ++ b ∷ rest)
    by true true z h k m e = never_from _ (λ more r p.
        let joined : p.digits ++ (p.pad ++ (print_extension p.text ++ 13 ∷ 10 ∷ r)) ≡ (front ++ b ∷ []) ++ (rest ++ more) = sym p.whole ∙ simp append_assoc refl in
        let long_run = run_within is_ascii_hexdigit p.digits (p.pad ++ (print_extension p.text ++ 13 ∷ 10 ∷ r)) (front ++ b ∷ []) (rest ++ more) joined
        (all_both is_ascii_hexdigit front (b ∷ []) hex (rw h refl)) (pad_start p.pad (print_extension p.text ++ 13 ∷ 10 ∷ r) p.ows (text_start p.text (10 ∷ r) is_ascii_hexdigit refl refl)) in
        let l = length-append front (b ∷ []) in
        let n : length (b ∷ []) ≡ 1 = refl in
        let sixteen : count ≡ 16 = grind (arith, nat_tests, k) in
        let few_digits = p.few in
        omega (arith, long_run, l, n, sixteen, few_digits, long))
    by true false z h k m e = absurd cc
    by false y true h k m e = never_from _ (λ more r p.
        let joined : p.digits ++ (p.pad ++ (print_extension p.text ++ 13 ∷ 10 ∷ r)) ≡ front ++ b ∷ (rest ++ more) = sym p.whole ∙ simp append_assoc refl in
        let same = (cut_once is_ascii_hexdigit p.digits (p.pad ++ (print_extension p.text ++ 13 ∷ 10 ∷ r)) front (b ∷ (rest ++ more)) joined p.hex hex
        (pad_start p.pad (print_extension p.text ++ 13 ∷ 10 ∷ r) p.ows (text_start p.text (10 ∷ r) is_ascii_hexdigit refl refl)) h).0 in
        let none : count ≡ 0 = grind (arith, nat_tests, m) in
        let l = ap length same in
        let some = p.some in
        omega (arith, l, none, long, some))
    by false y false h k m e = subst (λ (x : List ℕ). NeverHasChunkLine (x ++ b ∷ rest)) (append-nil front) (pad_bad front [] size b rest (digits_of count size front (hex, long, few, value) m) refl (λ x. h) e)
bad_line (state.Pad size) b front rest (digits, q, pad, has, ows, whole) e =
    subst (λ (x : List ℕ). NeverHasChunkLine (x ++ b ∷ rest)) (sym whole) (pad_bad digits (q ∷ pad) size b rest has ows (λ x. ows_not_hex q (and_parts (is_ows q) (list_all is_ows pad) ows).0) e)
bad_line (state.Text size) b front rest (digits, pad, text, has, ows, all, whole) e = by (b == 13) (b == 10) refl refl e
  where
    by : (x y : Bool) → (b == 13) ≡ x → (b == 10) ≡ y → step.Bad ≡ (if x then step.Goes (state.Return size) else if y then step.Bad else step.Goes (state.Text size)) → NeverHasChunkLine (front ++ b ∷ rest)
    by true y h k e = absurd cc
    by false true h k e = never_from _ (λ more r p.
        let is : b ≡ 10 = grind (arith, nat_tests, k) in
        let joined : (front ++ b ∷ rest) ++ more ≡ digits ++ (pad ++ (59 ∷ (text ++ 10 ∷ (rest ++ more)))) =
        ap₂ (λ (x : List ℕ) (y : ℕ). (x ++ y ∷ rest) ++ more) whole is ∙ simp append_assoc refl in
        lf_in_text p.text r text (rest ++ more) p.all all (aligned _ r digits pad (59 ∷ (text ++ 10 ∷ (rest ++ more))) p joined has.hex ows (pad_start pad (59 ∷ (text ++ 10 ∷ (rest ++ more))) ows refl) refl))
    by false false h k e = absurd cc
bad_line (state.Return size) b front rest (digits, pad, text, has, ows, all, whole) e = by (b == 10) refl e
  where
    by : (x : Bool) → (b == 10) ≡ x → step.Bad ≡ (if x then step.Ends size else step.Bad) → NeverHasChunkLine (front ++ b ∷ rest)
    by true h e = absurd cc
    by false h e = never_from _ (λ more r p.
        let other : b ≢ 10 = grind (arith, nat_tests, h) in
        let joined : (front ++ b ∷ rest) ++ more ≡ digits ++ (pad ++ (print_extension text ++ 13 ∷ b ∷ (rest ++ more))) =
        ap (λ (x : List ℕ). (x ++ b ∷ rest) ++ more) whole ∙ simp append_assoc refl in
        other (behind_return p.text text r (rest ++ more) b p.all all (aligned _ r digits pad (print_extension text ++ 13 ∷ b ∷ (rest ++ more)) p joined has.hex ows
        (pad_start pad (print_extension text ++ 13 ∷ b ∷ (rest ++ more)) ows (text_start text (b ∷ (rest ++ more)) is_ascii_hexdigit refl refl)) (text_start text (b ∷ (rest ++ more)) is_ows refl refl))))

-- ---- the bytes end

abbrev is_no_lf : ℕ → Bool
is_no_lf b = not (b == 10)

hex_no_lf : (b : ℕ) → is_ascii_hexdigit b ≡ true → is_no_lf b ≡ true
hex_no_lf b is = grind (arith, nat_tests)

ows_no_lf : (b : ℕ) → is_ows b ≡ true → is_no_lf b ≡ true
ows_no_lf b is = grind (arith, nat_tests)

text_no_lf : (b : ℕ) → is_extension_byte b ≡ true → is_no_lf b ≡ true
text_no_lf b is = grind (arith, nat_tests)

ext_no_lf : (e : Option (List ℕ)) → all_text e → list_all is_no_lf (print_extension e ++ 13 ∷ []) ≡ true
ext_no_lf None all = refl
ext_no_lf (Some t) all = all_both is_no_lf t (13 ∷ []) (all_weaker is_extension_byte is_no_lf t text_no_lf all) refl

no_lf : (st : LineState) (front : List ℕ) → Was st front → list_all is_no_lf front ≡ true
no_lf (state.Digits count size) front (hex, long, few, value) = all_weaker is_ascii_hexdigit is_no_lf front hex_no_lf hex
no_lf (state.Pad size) front (digits, q, pad, has, ows, whole) =
    subst (λ x. list_all is_no_lf x ≡ true) (sym whole) (all_both is_no_lf digits (q ∷ pad) (all_weaker is_ascii_hexdigit is_no_lf digits hex_no_lf has.hex) (all_weaker is_ows is_no_lf (q ∷ pad) ows_no_lf ows))
no_lf (state.Text size) front (digits, pad, text, has, ows, all, whole) =
    subst (λ x. list_all is_no_lf x ≡ true) (sym whole) (all_both is_no_lf digits (pad ++ 59 ∷ text) (all_weaker is_ascii_hexdigit is_no_lf digits hex_no_lf has.hex)
    (all_both is_no_lf pad (59 ∷ text) (all_weaker is_ows is_no_lf pad ows_no_lf ows) (all_weaker is_extension_byte is_no_lf text text_no_lf all)))
no_lf (state.Return size) front (digits, pad, text, has, ows, all, whole) =
    subst (λ x. list_all is_no_lf x ≡ true) (sym whole) (all_both is_no_lf digits (pad ++ (print_extension text ++ 13 ∷ [])) (all_weaker is_ascii_hexdigit is_no_lf digits hex_no_lf has.hex)
    (all_both is_no_lf pad (print_extension text ++ 13 ∷ []) (all_weaker is_ows is_no_lf pad ows_no_lf ows) (ext_no_lf text all)))

has_lf : (bytes rest : List ℕ) → Parts bytes rest → list_all is_no_lf bytes ≡ true → ⊥
has_lf bytes rest p none =
    let a = (all_front is_no_lf p.digits (p.pad ++ (print_extension p.text ++ 13 ∷ 10 ∷ rest)) (subst (λ x. list_all is_no_lf x ≡ true) p.whole none)).1 in
    let b = (all_front is_no_lf p.pad (print_extension p.text ++ 13 ∷ 10 ∷ rest) a).1 in
    let c = (all_front is_no_lf (print_extension p.text) (13 ∷ 10 ∷ rest) b).1 in
    cc

can_end : (bytes more : List ℕ) (digits pad : List ℕ) (e : Option (List ℕ)) (size : ℕ) → HasDigits digits size → list_all is_ows pad ≡ true → all_text e → bytes ++ more ≡ digits ++ (pad ++ (print_extension e ++ 13 ∷ 10 ∷ [])) → ¬ (NeverHasChunkLine bytes)
can_end bytes more digits pad e size has ows all joined never =
    let made = make_line digits pad e size [] has ows all in
    never more made.0 [] (subst (λ x. ReadsChunkLine x made.0 []) (sym joined) made.1)

can_go_on : (st : LineState) (front : List ℕ) → Was st front → ¬ (NeverHasChunkLine front)
can_go_on (state.Digits count size) front (hex, long, few, value) = by (count == 0) refl
  where
    by : (z : Bool) → (count == 0) ≡ z → ¬ (NeverHasChunkLine front)
    by true m =
        let none : length front ≡ 0 = grind (arith, nat_tests, m, long) in
        let has : HasDigits (48 ∷ []) 0 = record { hex = refl; some = omega arith; few = omega arith; value = refl } in
        can_end front (48 ∷ 13 ∷ 10 ∷ []) (48 ∷ []) [] None 0 has refl tt (ap (λ (x : List ℕ). x ++ 48 ∷ 13 ∷ 10 ∷ []) (nil_from_length front none))
    by false m = can_end front (13 ∷ 10 ∷ []) front [] None size (digits_of count size front (hex, long, few, value) m) refl tt refl
can_go_on (state.Pad size) front (digits, q, pad, has, ows, whole) =
    can_end front (13 ∷ 10 ∷ []) digits (q ∷ pad) None size has ows tt (ap (λ (x : List ℕ). x ++ 13 ∷ 10 ∷ []) whole ∙ simp append_assoc refl)
can_go_on (state.Text size) front (digits, pad, text, has, ows, all, whole) =
    can_end front (13 ∷ 10 ∷ []) digits pad (Some text) size has ows all (ap (λ (x : List ℕ). x ++ 13 ∷ 10 ∷ []) whole ∙ simp append_assoc refl)
can_go_on (state.Return size) front (digits, pad, text, has, ows, all, whole) =
    can_end front (10 ∷ []) digits pad text size has ows all (ap (λ (x : List ℕ). x ++ 10 ∷ []) whole ∙ simp append_assoc refl)

-- ---- the law

line_law : (w front : List ℕ) (st : LineState) → Was st front → IsLine (front ++ w) (line_from st w)
unfolding line_from
line_law [] front st was =
    subst (λ (x : List ℕ). HasNoChunkLine x × ¬ (NeverHasChunkLine x)) (sym (append-nil front)) ((λ l rest reads. has_lf front rest (parts_of_line front rest l reads) (no_lf st front was)), can_go_on st front was)
line_law (b ∷ w) front st was = by (line_step st b) refl (λ u h. line_law w (front ++ b ∷ []) u h)
  where
    by : (t : LineStep) → t ≡ line_step st b → ((u : LineState) → Was u (front ++ b ∷ []) → IsLine ((front ++ b ∷ []) ++ w) (line_from u w)) → IsLine (front ++ b ∷ w) (line_then t (λ u. line_from u w) w)
    by (step.Goes u) e more = subst (λ (x : List ℕ). IsLine x (line_from u w)) (append_assoc front (b ∷ []) w) (more u (goes_on st u b front was e))
    by (step.Ends n) e more = ends_line st n b front w was e
    by step.Bad e more = bad_line st b front w was e

pub line_is : (bytes : List ℕ) → IsLine bytes (line_of bytes)
line_is bytes = line_law bytes [] (state.Digits 0 0) (refl, refl, omega arith, refl)
