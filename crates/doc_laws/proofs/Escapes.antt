-- Texts and values as the writer writes them: how a reader takes them apart, and what they mean.
use Rattle.std.proofs.Common.{◌≡◌, ℕ, suc, ◌<◌, ◌≤◌, ◌⊎◌, inl, inr, Bool, true, false, not, ◌&&◌, ◌||◌, cond, eqb, List, [], ◌∷◌, ◌++◌, length, get_or, map, refl, sym, ap, subst, ◌∙◌, append_assoc, arith}
use Rattle.std.specs.Prelude.{encode_utf8, encode_utf8_all, codes, ◌==◌}
use Rattle.std.specs.List.{list_all}
use Rattle.std.specs.Str.{IsUtf8}
use Rattle.std.proofs.lemmas.Bool.{eqb-true}
use Rattle.std.proofs.lemmas.Bool.Decides.{nat_tests}
use Rattle.std.proofs.lemmas.Grind.{flat_map-append}
use Rattle.std.proofs.lemmas.List.{append-nil}
use Rattle.std.proofs.lemmas.List.Concat.{flat_map-cons}
use Rattle.std.proofs.lemmas.Str.{encode_ascii, inside_one, encodes-append, chars-encodes}
use Rattle.doc_tree.specs.Escape.{escaped_byte, escaped_bytes, escaped}
use Rattle.doc_tree.proofs.Escapes.{allowed_escaped}
use Rattle.doc_read.specs.declared.scope.Bound.{Bound}
use Rattle.doc_read.specs.declared.lex.Class.TheVariants.{Text, Value}
use Rattle.doc_read.specs.declared.word.Word.TheVariants as word
use Rattle.doc_tree.specs.Characters.{is_allowed}
use Rattle.doc_read.specs.Chars.{holds, is_read, letter_at, letters_at, contains}
use Rattle.doc_read.specs.Lex.{plain, named_reference, number}
use Rattle.doc_read.specs.Grammar.{IsPiece, Reference, named, decimal, print_reference, IsReference, Written, ended, refers, print_written, written_text, IsWritten, Piece, reference, piece_text, Content, last, piece, child, print_content, content_text, children, counts, IsContent, IsRun}
use Rattle.doc_read.proofs.Fronts.{both, false_unless}
use Rattle.doc_read.proofs.Marks.{begins_cons}
use Rattle.doc_laws.proofs.Encoding.{safe, IsSafe, all_join, are_scalars}

-- ---- bytes

-- allowed characters are written byte for byte
pub characters_written : (v : Bool) (vs : List ℕ) → list_all is_allowed vs ≡ true → escaped v (encode_utf8_all vs) ≡ escaped_bytes v (encode_utf8_all vs)
characters_written v vs allowed =
    let are = are_scalars vs allowed in
    let utf8 : IsUtf8 (encode_utf8_all vs) = (vs, (are, refl)) in
    allowed_escaped v (encode_utf8_all vs) utf8 (ap (list_all is_allowed) (chars-encodes vs are) ∙ allowed)

not_this : (b n : ℕ) → (b ≡ n → ⊥) → eqb b n ≡ false
not_this b n other = false_unless (eqb b n) (λ e. other (eqb-true b n e))

high_same : (v : Bool) (b : ℕ) → 128 ≤ b → escaped_byte v b ≡ b ∷ []
unfolding escaped_byte
high_same true b high =
    rw (not_this b 38 (λ e. absurd (omega arith)), not_this b 60 (λ e. absurd (omega arith)), not_this b 62 (λ e. absurd (omega arith)), not_this b 13 (λ e. absurd (omega arith)), not_this b 34 (λ e. absurd (omega arith)), not_this b 9 (λ e. absurd (omega arith)), not_this b 10 (λ e. absurd (omega arith))) refl
high_same false b high =
    rw (not_this b 38 (λ e. absurd (omega arith)), not_this b 60 (λ e. absurd (omega arith)), not_this b 62 (λ e. absurd (omega arith)), not_this b 13 (λ e. absurd (omega arith))) refl

all_same : (v : Bool) (xs : List ℕ) → ((k : ℕ) → k < length xs → escaped_byte v (get_or xs k 0) ≡ get_or xs k 0 ∷ []) → escaped_bytes v xs ≡ xs
all_same v [] h = refl
all_same v (x ∷ xs) h =
    flat_map-cons (escaped_byte v) x xs ∙ ap (λ (t : List ℕ). t ++ escaped_bytes v xs) (h 0 (omega arith))
    ∙ ap (λ (t : List ℕ). x ∷ t) (all_same v xs (λ k lt. h (suc k) (omega arith)))

wide_same : (v : Bool) (c : ℕ) → 128 ≤ c → escaped_bytes v (encode_utf8 c) ≡ encode_utf8 c
wide_same v c wide = all_same v (encode_utf8 c) (λ k lt. high_same v (get_or (encode_utf8 c) k 0) (high k lt))
  where
    low : (k : ℕ) → k < length (encode_utf8 c) → get_or (encode_utf8 c) k 0 < 128 → ⊥
    low k lt small =
        let e : c ≡ get_or (encode_utf8 c) k 0 = inside_one c [] (encode_utf8 c) k (sym (append-nil (encode_utf8 c))) lt small in
        omega arith

    high : (k : ℕ) → k < length (encode_utf8 c) → 128 ≤ get_or (encode_utf8 c) k 0
    high k lt = elim (split (get_or (encode_utf8 c) k 0)) [ inl s ↦ absurd (low k lt s) | inr l ↦ l ]
      where
        split : (n : ℕ) → (n < 128) ⊎ (128 ≤ n)
        split n = grind arith

-- ---- one character

-- it stands for itself
pub record IsPlain (v : Bool) (c : ℕ) : Type 0 where
  pub bytes : escaped_byte v c ≡ c ∷ []
  pub no_amp : eqb c 38 ≡ false
  pub no_less : eqb c 60 ≡ false
  pub no_greater : eqb c 62 ≡ false
  pub no_return : eqb c 13 ≡ false
  pub no_quote : v ≡ true → eqb c 34 ≡ false
  pub no_tab : v ≡ true → eqb c 9 ≡ false
  pub no_feed : v ≡ true → eqb c 10 ≡ false

-- it stands as a reference
pub record IsMarked (v : Bool) (c : ℕ) : Type 0 where
  pub refers_by : Reference
  pub means : IsReference refers_by c
  pub bytes : escaped_byte v c ≡ 38 ∷ (print_reference refers_by ++ 59 ∷ [])
  pub printed_safe : IsSafe (print_reference refers_by)
  pub same : encode_utf8_all (print_reference refers_by) ≡ print_reference refers_by
  pub small : c < 128

marked_amp : (v : Bool) → IsMarked v 38
unfolding escaped_byte named_reference lib.Utf8.encode
marked_amp v = record { refers_by = named (codes "amp"); means = (record { first = refl; each = refl }, refl); bytes = refl; printed_safe = refl; same = refl; small = omega arith }

marked_less : (v : Bool) → IsMarked v 60
unfolding escaped_byte named_reference lib.Utf8.encode
marked_less v = record { refers_by = named (codes "lt"); means = (record { first = refl; each = refl }, refl); bytes = refl; printed_safe = refl; same = refl; small = omega arith }

marked_greater : (v : Bool) → IsMarked v 62
unfolding escaped_byte named_reference lib.Utf8.encode
marked_greater v = record { refers_by = named (codes "gt"); means = (record { first = refl; each = refl }, refl); bytes = refl; printed_safe = refl; same = refl; small = omega arith }

marked_return : (v : Bool) → IsMarked v 13
unfolding escaped_byte number lib.Utf8.encode
marked_return v = record { refers_by = decimal (codes "13"); means = record { some = refl; each = refl; allowed = refl; value = refl }; bytes = refl; printed_safe = refl; same = refl; small = omega arith }

marked_quote : IsMarked true 34
unfolding escaped_byte named_reference lib.Utf8.encode
marked_quote = record { refers_by = named (codes "quot"); means = (record { first = refl; each = refl }, refl); bytes = refl; printed_safe = refl; same = refl; small = omega arith }

marked_tab : IsMarked true 9
unfolding escaped_byte number lib.Utf8.encode
marked_tab = record { refers_by = decimal (codes "9"); means = record { some = refl; each = refl; allowed = refl; value = refl }; bytes = refl; printed_safe = refl; same = refl; small = omega arith }

marked_feed : IsMarked true 10
unfolding escaped_byte number lib.Utf8.encode
marked_feed = record { refers_by = decimal (codes "10"); means = record { some = refl; each = refl; allowed = refl; value = refl }; bytes = refl; printed_safe = refl; same = refl; small = omega arith }

pub either : (v : Bool) (c : ℕ) → IsPlain v c ⊎ IsMarked v c
unfolding escaped_byte
either v c = outer (eqb c 38) (eqb c 60) (eqb c 62) (eqb c 13) refl refl refl refl
  where
    inner : (v a b d : Bool) → eqb c 38 ≡ false → eqb c 60 ≡ false → eqb c 62 ≡ false → eqb c 13 ≡ false → eqb c 34 ≡ a → eqb c 9 ≡ b → eqb c 10 ≡ d → IsPlain v c ⊎ IsMarked v c
    inner false a b d p q r s x y z = inl (record { bytes = rw (p, q, r, s) refl; no_amp = p; no_less = q; no_greater = r; no_return = s; no_quote = λ e. absurd (cc e); no_tab = λ e. absurd (cc e); no_feed = λ e. absurd (cc e) })
    inner true true b d p q r s x y z = inr (subst (λ (k : ℕ). IsMarked true k) (sym (eqb-true c 34 x)) marked_quote)
    inner true false true d p q r s x y z = inr (subst (λ (k : ℕ). IsMarked true k) (sym (eqb-true c 9 y)) marked_tab)
    inner true false false true p q r s x y z = inr (subst (λ (k : ℕ). IsMarked true k) (sym (eqb-true c 10 z)) marked_feed)
    inner true false false false p q r s x y z = inl (record { bytes = rw (p, q, r, s, x, y, z) refl; no_amp = p; no_less = q; no_greater = r; no_return = s; no_quote = λ e. x; no_tab = λ e. y; no_feed = λ e. z })

    outer : (a b d e : Bool) → eqb c 38 ≡ a → eqb c 60 ≡ b → eqb c 62 ≡ d → eqb c 13 ≡ e → IsPlain v c ⊎ IsMarked v c
    outer true b d e p q r s = inr (subst (λ (k : ℕ). IsMarked v k) (sym (eqb-true c 38 p)) (marked_amp v))
    outer false true d e p q r s = inr (subst (λ (k : ℕ). IsMarked v k) (sym (eqb-true c 60 q)) (marked_less v))
    outer false false true e p q r s = inr (subst (λ (k : ℕ). IsMarked v k) (sym (eqb-true c 62 r)) (marked_greater v))
    outer false false false true p q r s = inr (subst (λ (k : ℕ). IsMarked v k) (sym (eqb-true c 13 s)) (marked_return v))
    outer false false false false p q r s = inner v (eqb c 34) (eqb c 9) (eqb c 10) p q r s refl refl refl

-- its bytes
plain_char : (v : Bool) (c : ℕ) → IsPlain v c → escaped_bytes v (encode_utf8 c) ≡ encode_utf8 c
plain_char v c is = elim (split c) [
  | inl s ↦ rw (encode_ascii c s) (flat_map-cons (escaped_byte v) c [] ∙ rw is.bytes refl)
  | inr l ↦ wide_same v c l
]
  where
    split : (n : ℕ) → (n < 128) ⊎ (128 ≤ n)
    split n = grind arith

marked_char : (v : Bool) (c : ℕ) (is : IsMarked v c) → escaped_bytes v (encode_utf8 c) ≡ 38 ∷ (print_reference is.refers_by ++ 59 ∷ [])
marked_char v c is =
    let small = is.small in
    rw (encode_ascii c small) (flat_map-cons (escaped_byte v) c [] ∙ append-nil (escaped_byte v c) ∙ is.bytes)

-- the bytes of a reference are its characters
marked_encodes : (v : Bool) (c : ℕ) (is : IsMarked v c) (rest : List ℕ) → encode_utf8_all (38 ∷ (print_reference is.refers_by ++ 59 ∷ rest)) ≡ 38 ∷ (print_reference is.refers_by ++ 59 ∷ encode_utf8_all rest)
unfolding lib.Utf8.encode
marked_encodes v c is rest = ap (λ (x : List ℕ). 38 ∷ x) (encodes-append (print_reference is.refers_by) (59 ∷ rest) ∙ ap (λ (x : List ℕ). x ++ 59 ∷ encode_utf8_all rest) is.same)

plain_then : (v : Bool) (c : ℕ) (cs : List ℕ) → IsPlain v c → escaped_bytes v (encode_utf8_all (c ∷ cs)) ≡ encode_utf8 c ++ escaped_bytes v (encode_utf8_all cs)
plain_then v c cs is = flat_map-append (escaped_byte v) (encode_utf8 c) (encode_utf8_all cs) ∙ ap (λ (x : List ℕ). x ++ escaped_bytes v (encode_utf8_all cs)) (plain_char v c is)

marked_then : (v : Bool) (c : ℕ) (cs : List ℕ) (is : IsMarked v c) → escaped_bytes v (encode_utf8_all (c ∷ cs)) ≡ 38 ∷ (print_reference is.refers_by ++ 59 ∷ escaped_bytes v (encode_utf8_all cs))
marked_then v c cs is =
    flat_map-append (escaped_byte v) (encode_utf8 c) (encode_utf8_all cs) ∙ ap (λ (x : List ℕ). x ++ escaped_bytes v (encode_utf8_all cs)) (marked_char v c is)
    ∙ ap (λ (x : List ℕ). 38 ∷ x) (append_assoc (print_reference is.refers_by) (59 ∷ []) (escaped_bytes v (encode_utf8_all cs)))

plain_safe : (v : Bool) (c : ℕ) → IsPlain v c → is_allowed c ≡ true → safe c ≡ true
plain_safe v c is allowed = rw (allowed, is.no_return) refl

-- ---- values

pub record WroteValue (vs : List ℕ) : Type 0 where
  pub written : Written
  pub fits : IsWritten 34 written
  pub means : written_text written ≡ encode_utf8_all vs
  pub printed_safe : IsSafe (print_written written)
  pub bytes : escaped_bytes true (encode_utf8_all vs) ≡ encode_utf8_all (print_written written)

abbrev push : ℕ → Written → Written
push c (ended run) = ended (c ∷ run)
push c (refers run r x w) = refers (c ∷ run) r x w

push_prints : (c : ℕ) (w : Written) → print_written (push c w) ≡ c ∷ print_written w
push_prints c (ended run) = refl
push_prints c (refers run r x w) = refl

push_means : (c : ℕ) (w : Written) → plain c ≡ c → written_text (push c w) ≡ encode_utf8 c ++ written_text w
push_means c (ended run) same = rw same refl
push_means c (refers run r x w) same = rw same (append_assoc (encode_utf8 c) (encode_utf8_all (map plain run)) (encode_utf8 x ++ written_text w))

push_fits : (c : ℕ) (w : Written) → holds (Value 34) c ≡ true → IsWritten 34 w → IsWritten 34 (push c w)
push_fits c (ended run) here fits = rw here fits
push_fits c (refers run r x w) here fits = (rw here fits.0, fits.1, fits.2)

stays : (c : ℕ) → eqb c 9 ≡ false → eqb c 10 ≡ false → plain c ≡ c
stays c no_tab no_feed = go (eqb c 32) refl
  where
    go : (b : Bool) → eqb c 32 ≡ b → cond ((b || eqb c 9) || eqb c 10) 32 c ≡ c
    go true is = sym (eqb-true c 32 is)
    go false is = rw (no_tab, no_feed) refl

pub value_written : (vs : List ℕ) → list_all is_allowed vs ≡ true → WroteValue vs
value_written [] allowed = record { written = ended []; fits = refl; means = refl; printed_safe = refl; bytes = refl }
value_written (c ∷ cs) allowed =
    let k = both (is_allowed c) (list_all is_allowed cs) allowed in
    let more = value_written cs k.1 in
    elim (either true c) [
      | inl is ↦
          let here : holds (Value 34) c ≡ true = rw (is.no_quote refl, is.no_less, is.no_amp) refl in
          record {
            written = push c more.written;
            fits = push_fits c more.written here more.fits;
            means = push_means c more.written (stays c (is.no_tab refl) (is.no_feed refl)) ∙ ap (λ (x : List ℕ). encode_utf8 c ++ x) more.means;
            printed_safe = rw (push_prints c more.written, plain_safe true c is k.0) more.printed_safe;
            bytes = plain_then true c cs is ∙ ap (λ (x : List ℕ). encode_utf8 c ++ x) more.bytes ∙ ap encode_utf8_all (sym (push_prints c more.written));
          }
      | inr is ↦ record {
        written = refers [] is.refers_by c more.written;
        fits = (refl, is.means, more.fits);
        means = ap (λ (x : List ℕ). encode_utf8 c ++ x) more.means;
        printed_safe = all_join safe (print_reference is.refers_by) (59 ∷ print_written more.written) is.printed_safe more.printed_safe;
        bytes = marked_then true c cs is ∙ ap (λ (x : List ℕ). 38 ∷ (print_reference is.refers_by ++ 59 ∷ x)) more.bytes ∙ sym (marked_encodes true c is (print_written more.written));
      }
    ]

-- ---- texts

abbrev plain_text : ℕ → Bool
plain_text c = holds Text c && not (c == 62)

no_greater : (c : ℕ) → plain_text c ≡ true → eqb c 62 ≡ false
no_greater c h = grind (arith, nat_tests)

one_left : (cs : List ℕ) → list_all plain_text cs ≡ true → is_read (letters_at (62 ∷ []) cs) ≡ false
unfolding letters_at letter_at
one_left [] all = refl
one_left (c ∷ cs) all =
    let k = both (plain_text c) (list_all plain_text cs) all in
    begins_cons 62 [] c cs ∙ rw (no_greater c k.0) refl

and_false : (b : Bool) → (b && false) ≡ false
and_false true = refl
and_false false = refl

two_left : (cs : List ℕ) → list_all plain_text cs ≡ true → is_read (letters_at (93 ∷ 62 ∷ []) cs) ≡ false
unfolding letters_at letter_at
two_left [] all = refl
two_left (c ∷ cs) all =
    let k = both (plain_text c) (list_all plain_text cs) all in
    begins_cons 93 (62 ∷ []) c cs ∙ rw (one_left cs k.1) (and_false (eqb c 93))

never_closed : (cs : List ℕ) → list_all plain_text cs ≡ true → contains word.SectionEnd cs ≡ false
unfolding contains
never_closed [] all = refl
never_closed (c ∷ cs) all =
    let k = both (plain_text c) (list_all plain_text cs) all in
    rw (begins_cons 93 (93 ∷ 62 ∷ []) c cs, two_left cs k.1, and_false (eqb c 93), never_closed cs k.1) refl

plain_is_text : (c : ℕ) → plain_text c ≡ true → holds Text c ≡ true
plain_is_text c h = (both (holds Text c) (not (eqb c 62)) h).0

pub plain_run : (run : List ℕ) → list_all plain_text run ≡ true → IsRun run
plain_run run all = record { each = weaker run all; unclosed = never_closed run all }
  where
    weaker : (cs : List ℕ) → list_all plain_text cs ≡ true → list_all (holds Text) cs ≡ true
    weaker [] h = refl
    weaker (c ∷ cs) h =
        let k = both (plain_text c) (list_all plain_text cs) h in
        rw (plain_is_text c k.0) (weaker cs k.1)

-- content that is a text alone
abbrev IsTexts : Content → Type 0
IsTexts (last run) = list_all plain_text run ≡ true
IsTexts (piece run p c) = (list_all plain_text run ≡ true) × (r : Reference) × (x : ℕ) × (p ≡ reference r x) × IsReference r x × IsTexts c
IsTexts (child run m c) = ⊥

texts_fit : (c : Content) (d : ℕ) (scope : List Bound) → IsTexts c → IsContent c d scope
texts_fit (last run) d scope is = plain_run run is
texts_fit (piece run p c) d scope is = (plain_run run is.0, subst (λ (q : Piece). IsPiece q) (sym is.3) is.4, texts_fit c d scope is.5)
texts_fit (child run m c) d scope is = absurd is

texts_childless : (c : Content) → IsTexts c → children c ≡ []
texts_childless (last run) is = refl
texts_childless (piece run p c) is = texts_childless c is.5
texts_childless (child run m c) is = absurd is

texts_uncounted : (c : Content) → IsTexts c → counts c ≡ 0
texts_uncounted (last run) is = refl
texts_uncounted (piece run p c) is = texts_uncounted c is.5
texts_uncounted (child run m c) is = absurd is

pub record WroteText (vs : List ℕ) : Type 0 where
  pub content : Content
  pub texts : IsTexts content
  pub means : content_text content ≡ encode_utf8_all vs
  pub printed_safe : IsSafe (print_content content)
  pub bytes : escaped_bytes false (encode_utf8_all vs) ≡ encode_utf8_all (print_content content)

pub text_fits : (vs : List ℕ) (t : WroteText vs) (d : ℕ) (scope : List Bound) → IsContent t.content d scope
text_fits vs t d scope = texts_fit t.content d scope t.texts

pub text_childless : (vs : List ℕ) (t : WroteText vs) → children t.content ≡ []
text_childless vs t = texts_childless t.content t.texts

pub text_uncounted : (vs : List ℕ) (t : WroteText vs) → counts t.content ≡ 0
text_uncounted vs t = texts_uncounted t.content t.texts

abbrev put : ℕ → Content → Content
put c (last run) = last (c ∷ run)
put c (piece run p k) = piece (c ∷ run) p k
put c (child run m k) = child (c ∷ run) m k

put_prints : (c : ℕ) (k : Content) → print_content (put c k) ≡ c ∷ print_content k
put_prints c (last run) = refl
put_prints c (piece run p k) = refl
put_prints c (child run m k) = refl

put_means : (c : ℕ) (k : Content) → content_text (put c k) ≡ encode_utf8 c ++ content_text k
put_means c (last run) = refl
put_means c (piece run p k) = append_assoc (encode_utf8 c) (encode_utf8_all run) (piece_text p ++ content_text k)
put_means c (child run m k) = append_assoc (encode_utf8 c) (encode_utf8_all run) (content_text k)

put_fits : (c : ℕ) (k : Content) → plain_text c ≡ true → IsTexts k → IsTexts (put c k)
put_fits c (last run) here is = rw here is
put_fits c (piece run p k) here is = (rw here is.0, is.1, is.2, is.3, is.4, is.5)
put_fits c (child run m k) here is = absurd is

pub text_written : (vs : List ℕ) → list_all is_allowed vs ≡ true → WroteText vs
text_written [] allowed = record { content = last []; texts = refl; means = refl; printed_safe = refl; bytes = refl }
text_written (c ∷ cs) allowed =
    let k = both (is_allowed c) (list_all is_allowed cs) allowed in
    let more = text_written cs k.1 in
    elim (either false c) [
      | inl is ↦
          let here : plain_text c ≡ true = rw (is.no_less, is.no_amp, is.no_greater) refl in
          record {
            content = put c more.content;
            texts = put_fits c more.content here more.texts;
            means = put_means c more.content ∙ ap (λ (x : List ℕ). encode_utf8 c ++ x) more.means;
            printed_safe = rw (put_prints c more.content, plain_safe false c is k.0) more.printed_safe;
            bytes = plain_then false c cs is ∙ ap (λ (x : List ℕ). encode_utf8 c ++ x) more.bytes ∙ ap encode_utf8_all (sym (put_prints c more.content));
          }
      | inr is ↦
          let regrouped : print_content (piece [] (reference is.refers_by c) more.content) ≡ 38 ∷ (print_reference is.refers_by ++ 59 ∷ print_content more.content) = ap (λ (x : List ℕ). 38 ∷ x) (append_assoc (print_reference is.refers_by) (59 ∷ []) (print_content more.content)) in
          record {
            content = piece [] (reference is.refers_by c) more.content;
            texts = (refl, is.refers_by, c, refl, is.means, more.texts);
            means = ap (λ (x : List ℕ). encode_utf8 c ++ x) more.means;
            printed_safe = ap (λ (x : List ℕ). list_all safe x) regrouped ∙ all_join safe (print_reference is.refers_by) (59 ∷ print_content more.content) is.printed_safe more.printed_safe;
            bytes = marked_then false c cs is ∙ ap (λ (x : List ℕ). 38 ∷ (print_reference is.refers_by ++ 59 ∷ x)) more.bytes ∙ sym (marked_encodes false c is (print_content more.content)) ∙ ap encode_utf8_all (sym regrouped);
          }
    ]
