-- What spells a part is read as that part, whatever follows it.
use Rattle.std.proofs.Common.{◌≡◌, ℕ, zero, suc, sub-one, ◌+◌, ◌-◌, ◌≤◌, ◌<◌, Bool, true, false, not, ◌&&◌, ◌||◌, eqb, List, [], ◌∷◌, ◌++◌, length, map, Ok, refl, sym, ap, subst, ◌∙◌, append_assoc, arith, inl, inr}
use Rattle.std.specs.Prelude.{encode_utf8, encode_utf8_all}
use Rattle.std.specs.List.{list_all}
use Rattle.std.specs.Str.{bytes_eq}
use Rattle.std.proofs.lemmas.Bool.Decides.{nat_tests}
use Rattle.std.proofs.lemmas.List.{append-nil, length-append}
use Rattle.wfs_ends.specs.Read.{until, unless}
use Rattle.doc_tree.specs.declared.tree.Attribute.{Attribute}
use Rattle.doc_read.specs.declared.fault.DocFault.TheVariants.{Malformed}
use Rattle.doc_read.specs.declared.lex.Class.{Class}
use Rattle.doc_read.specs.declared.lex.Class.TheVariants.{Space, NameStart, NamePart, Value, Decimal, Hexadecimal}
use Rattle.doc_read.specs.declared.word.Word.TheVariants as word
use Rattle.doc_read.specs.Chars.{holds, starts, skip_space, letter_at, letters_at, contains}
use Rattle.doc_read.specs.Lex.{Spelling, Raw, Tag, part, plain, name_at, local_at, spelled_at, name_reference_at, number_reference_at, numbered_at, reference_at, value_turn, value_at, raw_attribute_at, attributes_at, tag_at}
use Rattle.doc_read.specs.declared.scope.Bound.{Bound}
use Rattle.doc_read.specs.Scope.{same_spelling, attributes_in}
use Rattle.doc_read.specs.Element.{Head, head_at, closed_at, comment_at, remark_at, marked_at}
use Rattle.doc_read.specs.Grammar.{IsName, IsBlank, IsQuote, IsPrefix, IsSpelling, spell, Reference, named, decimal, hexadecimal, print_reference, IsNumber, IsReference, Written, ended, refers, print_written, written_text, IsWritten, SpellsRaw, SpellsRaws, SpellsTag, SpellsHead, tag_end}
use Rattle.doc_read.proofs.Fronts.{both, split_again}
use Rattle.doc_read.proofs.Marks.{same_eqb, comment_split, section_split}
use Rattle.doc_read.proofs.Untils.{until_next, until_stops}

-- ---- characters

space_no_part : (c : ℕ) → holds Space c ≡ true → holds NamePart c ≡ false
space_no_part c h = grind (arith, nat_tests)

space_no_colon : (c : ℕ) → holds Space c ≡ true → eqb c 58 ≡ false
space_no_colon c h = grind (arith, nat_tests)

pub start_no_space : (c : ℕ) → holds NameStart c ≡ true → holds Space c ≡ false
start_no_space c h = grind (arith, nat_tests)

pub start_no_sign : (c : ℕ) → holds NameStart c ≡ true → (eqb c 47 ≡ false) × (eqb c 33 ≡ false)
start_no_sign c h = (grind (arith, nat_tests), grind (arith, nat_tests))

pub start_no_number : (c : ℕ) → holds NameStart c ≡ true → eqb c 35 ≡ false
start_no_number c h = grind (arith, nat_tests)

pub decimal_no_x : (c : ℕ) → holds Decimal c ≡ true → eqb c 120 ≡ false
decimal_no_x c h = grind (arith, nat_tests)

pub same_bytes : (xs : List ℕ) → bytes_eq xs xs ≡ true
same_bytes [] = refl
same_bytes (x ∷ xs) = rw (same_eqb x, same_bytes xs) refl

-- ---- names

-- what may follow a name
pub record Ends (rest : List ℕ) : Type 0 where
  pub no_part : starts NamePart rest ≡ false
  pub no_colon : (first : List ℕ) → local_at first rest ≡ Ok (record { prefix = []; local = first }, rest)

pub ends_at : (c : ℕ) (x : List ℕ) → holds NamePart c ≡ false → eqb c 58 ≡ false → Ends (c ∷ x)
ends_at c x part colon = record { no_part = part; no_colon = λ first. rw colon refl }

pub blank_ends : (gap : List ℕ) (c : ℕ) (x : List ℕ) → IsBlank gap → holds NamePart c ≡ false → eqb c 58 ≡ false → Ends (gap ++ c ∷ x)
blank_ends [] c x blank part colon = ends_at c x part colon
blank_ends (g ∷ gap) c x blank part colon =
    let p = both (holds Space g) (list_all (holds Space) gap) blank in
    ends_at g (gap ++ c ∷ x) (space_no_part g p.0) (space_no_colon g p.0)

pub skip_again : (gap : List ℕ) (c : ℕ) (x : List ℕ) → IsBlank gap → holds Space c ≡ false → skip_space (gap ++ c ∷ x) ≡ c ∷ x
skip_again gap c x blank no_space = ap (λ (p : List ℕ × List ℕ). p.1) (split_again Space gap (c ∷ x) blank no_space)

pub name_again : (n rest : List ℕ) → IsName n → starts NamePart rest ≡ false → name_at (n ++ rest) ≡ Ok (n, rest)
unfolding name_at
name_again [] rest is stops = absurd (cc is.first)
name_again (c ∷ cs) rest is stops = rw (is.first, split_again NamePart (c ∷ cs) rest is.each stops) refl

pub spelled_again : (s : Spelling) (rest : List ℕ) → IsSpelling s → Ends rest → spelled_at (spell s ++ rest) ≡ Ok (s, rest)
unfolding spelled_at
spelled_again s rest is ends = go s.prefix s.local is.prefix is.local
  where
    go : (prefix local : List ℕ) → IsPrefix prefix → IsName local → spelled_at (spell (record { prefix = prefix; local = local }) ++ rest) ≡ Ok (record { prefix = prefix; local = local }, rest)
    go [] local none is = rw (name_again local rest is ends.no_part) (ends.no_colon local)
    go (c ∷ cs) local prefix is =
        let regrouped : spell (record { prefix = c ∷ cs; local = local }) ++ rest ≡ (c ∷ cs) ++ (58 ∷ (local ++ rest)) = append_assoc (c ∷ cs) (58 ∷ local) rest in
        rw (regrouped, name_again (c ∷ cs) (58 ∷ (local ++ rest)) prefix refl, name_again local rest is ends.no_part) refl

same_spelled : (s : Spelling) → same_spelling s s ≡ true
same_spelled s = rw (same_bytes s.prefix, same_bytes s.local) refl

pub closed_again : (s : Spelling) (gap rest : List ℕ) → IsSpelling s → IsBlank gap → closed_at s (spell s ++ (gap ++ 62 ∷ rest)) ≡ Ok rest
unfolding closed_at
closed_again s gap rest spelled blank =
    rw (spelled_again s (gap ++ 62 ∷ rest) spelled (blank_ends gap 62 rest blank refl refl), same_spelled s, skip_again gap 62 rest blank refl) refl

-- ---- references

number_again : (class : Class) (base : ℕ) (digits : List ℕ) (c : ℕ) (rest : List ℕ) → IsNumber class base digits c → holds class 59 ≡ false → number_reference_at class base (digits ++ 59 ∷ rest) ≡ Ok (c, rest)
unfolding number_reference_at unless
number_again class base [] c rest is stops = absurd (cc is.some)
number_again class base (d ∷ digits) c rest is stops = rw (is.some, split_again class (d ∷ digits) (59 ∷ rest) is.each stops, is.value, is.allowed) refl

pub reference_again : (r : Reference) (c : ℕ) (rest : List ℕ) → IsReference r c → reference_at (print_reference r ++ 59 ∷ rest) ≡ Ok (c, rest)
unfolding reference_at name_reference_at numbered_at
reference_again (named []) c rest is = absurd (cc is.0.first)
reference_again (named (x ∷ xs)) c rest is = rw (start_no_number x is.0.first, name_again (x ∷ xs) (59 ∷ rest) is.0 refl, is.1) refl
reference_again (decimal []) c rest is = absurd (cc is.some)
reference_again (decimal (d ∷ digits)) c rest is = rw (decimal_no_x d is.some) (number_again Decimal 10 (d ∷ digits) c rest is refl)
reference_again (hexadecimal digits) c rest is = number_again Hexadecimal 16 digits c rest is refl

-- ---- values

pub closes : (q : ℕ) → IsQuote q → holds (Value q) q ≡ false
closes q h = elim h [ inl e ↦ rw e refl | inr e ↦ rw e refl ]

refers_out : (q : ℕ) → IsQuote q → holds (Value q) 38 ≡ false
refers_out q h = elim h [ inl e ↦ rw e refl | inr e ↦ rw e refl ]

no_quote : (q : ℕ) → IsQuote q → eqb 38 q ≡ false
no_quote q h = elim h [ inl e ↦ rw e refl | inr e ↦ rw e refl ]

pub is_quote : (q : ℕ) → IsQuote q → (eqb q 34 || eqb q 39) ≡ true
is_quote q h = elim h [ inl e ↦ rw e refl | inr e ↦ rw e refl ]

pub quote_no_space : (q : ℕ) → IsQuote q → holds Space q ≡ false
quote_no_space q h = elim h [ inl e ↦ rw e refl | inr e ↦ rw e refl ]

no_mark : (q c : ℕ) → holds (Value q) c ≡ true → (eqb c q ≡ false) × (eqb c 60 ≡ false) × (eqb c 38 ≡ false)
no_mark q c h = go (eqb c q) (eqb c 60) (eqb c 38) h
  where
    go : (x y z : Bool) → (not x && not y && not z) ≡ true → (x ≡ false) × (y ≡ false) × (z ≡ false)
    go true y z h = absurd cc
    go false true z h = absurd cc
    go false false true h = absurd cc
    go false false false h = (refl, refl, refl)

value_run : (q : ℕ) (found : List ℕ) (c : ℕ) (cs : List ℕ) (stop : ℕ) (more : List ℕ) → list_all (holds (Value q)) (c ∷ cs) ≡ true → holds (Value q) stop ≡ false → value_turn q (part found ((c ∷ cs) ++ stop ∷ more)) ≡ Ok (false, part (found ++ encode_utf8_all (map plain (c ∷ cs))) (stop ∷ more))
unfolding value_turn
value_run q found c cs stop more run stops =
    let p = both (holds (Value q) c) (list_all (holds (Value q)) cs) run in
    let no = no_mark q c p.0 in
    rw (no.0, no.1, no.2, split_again (Value q) (c ∷ cs) (stop ∷ more) run stops) refl

value_skips : (q n : ℕ) (found run : List ℕ) (stop : ℕ) (more : List ℕ) → list_all (holds (Value q)) run ≡ true → holds (Value q) stop ≡ false → length run < n
    → (k : ℕ) × (n ≤ k + length run) × (until Malformed (value_turn q) n (part found (run ++ stop ∷ more)) ≡ until Malformed (value_turn q) k (part (found ++ encode_utf8_all (map plain run)) (stop ∷ more)))
value_skips q n found [] stop more run stops lt = (n, omega arith, rw (append-nil found) refl)
value_skips q n found (c ∷ cs) stop more run stops lt =
    (n - 1, omega arith, until_next Malformed (value_turn q) n (part found ((c ∷ cs) ++ stop ∷ more)) _ (omega arith) (value_run q found c cs stop more run stops))

quote_turn : (q : ℕ) (found rest : List ℕ) → value_turn q (part found (q ∷ rest)) ≡ Ok (true, part found rest)
unfolding value_turn
quote_turn q found rest = rw (same_eqb q) refl

reference_turn : (q : ℕ) (found : List ℕ) (r : Reference) (c : ℕ) (rest : List ℕ) → IsQuote q → IsReference r c → value_turn q (part found (38 ∷ (print_reference r ++ 59 ∷ rest))) ≡ Ok (false, part (found ++ encode_utf8 c) rest)
unfolding value_turn
reference_turn q found r c rest quotes is = rw (no_quote q quotes, reference_again r c rest is) refl

written_again : (q : ℕ) (w : Written) (n : ℕ) (found rest : List ℕ) → IsQuote q → IsWritten q w → length (print_written w) < n → until Malformed (value_turn q) n (part found (print_written w ++ q ∷ rest)) ≡ Ok (part (found ++ written_text w) rest)
written_again q (ended run) n found rest quotes is lt =
    let r = value_skips q n found run q rest is (closes q quotes) lt in
    r.2 ∙ until_stops Malformed (value_turn q) r.0 _ _ (omega (arith, r.1)) (quote_turn q (found ++ encode_utf8_all (map plain run)) rest)
written_again q (refers run x c w) n found rest quotes is lt =
    let more : List ℕ = print_written w ++ q ∷ rest in
    let long = length-append run (38 ∷ (print_reference x ++ 59 ∷ print_written w)) in
    let long' = length-append (print_reference x) (59 ∷ print_written w) in
    let r = value_skips q n found run 38 (print_reference x ++ 59 ∷ more) is.0 (refers_out q quotes) (omega (arith, long)) in
    let regrouped : print_written (refers run x c w) ++ q ∷ rest ≡ run ++ 38 ∷ (print_reference x ++ 59 ∷ more) = simp append_assoc in
    ap (λ (y : List ℕ). until Malformed (value_turn q) n (part found y)) regrouped ∙ r.2
    ∙ until_next Malformed (value_turn q) r.0 _ _ (omega (arith, r.1, long)) (reference_turn q (found ++ encode_utf8_all (map plain run)) x c more quotes is.1)
    ∙ written_again q w (r.0 - 1) ((found ++ encode_utf8_all (map plain run)) ++ encode_utf8 c) rest quotes is.2 (omega (arith, r.1, long, long'))
    ∙ ap (λ (y : List ℕ). Ok (part y rest)) (simp append_assoc)

value_again : (q : ℕ) (w : Written) (rest : List ℕ) → IsQuote q → IsWritten q w → value_at (q ∷ (print_written w ++ q ∷ rest)) ≡ Ok (written_text w, rest)
unfolding value_at
value_again q w rest quotes is =
    rw (is_quote q quotes, written_again q w (length (print_written w ++ q ∷ rest)) [] rest quotes is (omega (arith, length-append (print_written w) (q ∷ rest)))) refl

-- ---- attributes

pub raw_again : (text : List ℕ) (r : Raw) (rest : List ℕ) → SpellsRaw text r → raw_attribute_at (text ++ rest) ≡ Ok (r, rest)
unfolding raw_attribute_at
raw_again text r rest s =
    let value : List ℕ = s.quote ∷ (print_written s.written ++ s.quote ∷ rest) in
    let regrouped : text ++ rest ≡ spell r.name ++ (s.before ++ 61 ∷ (s.after ++ value)) = ap (λ (x : List ℕ). x ++ rest) s.whole ∙ simp append_assoc in
    rw (
      regrouped,
      spelled_again r.name (s.before ++ 61 ∷ (s.after ++ value)) s.name (blank_ends s.before 61 (s.after ++ value) s.before_blank refl refl),
      skip_again s.before 61 (s.after ++ value) s.before_blank refl,
      skip_again s.after s.quote (print_written s.written ++ s.quote ∷ rest) s.after_blank (quote_no_space s.quote s.quotes),
      value_again s.quote s.written rest s.quotes s.value,
      s.means,
    ) refl

-- the first character of a name
pub begins_name : (n : List ℕ) → IsName n → (c : ℕ) × (cs : List ℕ) × (n ≡ c ∷ cs) × (holds NameStart c ≡ true)
begins_name [] is = absurd (cc is.first)
begins_name (c ∷ cs) is = (c, cs, refl, is.first)

pub begins_spelling : (s : Spelling) (rest : List ℕ) → IsSpelling s → (c : ℕ) × (cs : List ℕ) × (spell s ++ rest ≡ c ∷ cs) × (holds NameStart c ≡ true)
begins_spelling s rest is = go s.prefix s.local is.prefix is.local
  where
    go : (prefix local : List ℕ) → IsPrefix prefix → IsName local → (c : ℕ) × (cs : List ℕ) × (spell (record { prefix = prefix; local = local }) ++ rest ≡ c ∷ cs) × (holds NameStart c ≡ true)
    go [] local none is = let b = begins_name local is in (b.0, b.1 ++ rest, ap (λ (x : List ℕ). x ++ rest) b.2, b.3)
    go (c ∷ cs) local prefix is = (c, (cs ++ 58 ∷ local) ++ rest, refl, prefix.first)

-- an attribute begins with a name
begins_raw : (text : List ℕ) (r : Raw) (rest : List ℕ) → SpellsRaw text r → (c : ℕ) × (cs : List ℕ) × (text ++ rest ≡ c ∷ cs) × (holds NameStart c ≡ true)
begins_raw text r rest s =
    let more : List ℕ = s.before ++ 61 ∷ (s.after ++ s.quote ∷ (print_written s.written ++ s.quote ∷ rest)) in
    let b = begins_spelling r.name more s.name in
    (b.0, b.1, (ap (λ (x : List ℕ). x ++ rest) s.whole ∙ simp append_assoc) ∙ b.2, b.3)

-- white space, and not none
pub begins_blank : (gap rest : List ℕ) → IsBlank gap → 0 < length gap → starts Space (gap ++ rest) ≡ true
begins_blank [] rest blank some = absurd (omega arith)
begins_blank (g ∷ gap) rest blank some = (both (holds Space g) (list_all (holds Space) gap) blank).0

attributes_end : (n : ℕ) (found : List Raw) (cs : List ℕ) → 0 < n → starts NameStart (skip_space cs) ≡ false → attributes_at n found cs ≡ Ok (found, skip_space cs)
unfolding attributes_at
attributes_end zero found cs lt no_name = absurd (omega arith)
attributes_end (suc n) found cs lt no_name = rw no_name refl

attributes_next : (n : ℕ) (found : List Raw) (cs : List ℕ) (r : Raw) (rest : List ℕ) → 0 < n → starts NameStart (skip_space cs) ≡ true → starts Space cs ≡ true → raw_attribute_at (skip_space cs) ≡ Ok (r, rest) → attributes_at n found cs ≡ attributes_at (n - 1) (found ++ r ∷ []) rest
unfolding attributes_at
attributes_next zero found cs r rest lt name space reads = absurd (omega arith)
attributes_next (suc n) found cs r rest lt name space reads = rw (name, space, reads, sub-one) refl

pub attributes_again : (rs : List Raw) (text gap : List ℕ) (c : ℕ) (x : List ℕ) (n : ℕ) (found : List Raw) → SpellsRaws rs text → IsBlank gap → holds Space c ≡ false → holds NameStart c ≡ false → length text < n → attributes_at n found (text ++ (gap ++ c ∷ x)) ≡ Ok (found ++ rs, c ∷ x)
attributes_again [] text gap c x n found none blank no_space no_name lt =
    let e : text ++ (gap ++ c ∷ x) ≡ gap ++ c ∷ x = ap (λ (t : List ℕ). t ++ (gap ++ c ∷ x)) none in
    let skips = skip_again gap c x blank no_space in
    ap (attributes_at n found) e ∙ attributes_end n found (gap ++ c ∷ x) (omega arith) (ap (starts NameStart) skips ∙ no_name)
    ∙ rw (skips, append-nil found) refl
attributes_again (r ∷ rs) text gap c x n found s blank no_space no_name lt =
    let front = s.0 in
    let more : List ℕ = s.2 ++ (gap ++ c ∷ x) in
    let b = begins_raw s.1 r more s.5 in
    let long : length text ≡ length front + (length s.1 + length s.2) = ap length s.7 ∙ simp (length-append) (omega arith) in
    let e : text ++ (gap ++ c ∷ x) ≡ front ++ (s.1 ++ more) = ap (λ (t : List ℕ). t ++ (gap ++ c ∷ x)) s.7 ∙ simp append_assoc in
    let e' : front ++ (s.1 ++ more) ≡ front ++ b.0 ∷ b.1 = ap (λ (t : List ℕ). front ++ t) b.2 in
    let skips : skip_space (front ++ (s.1 ++ more)) ≡ b.0 ∷ b.1 = ap skip_space e' ∙ skip_again front b.0 b.1 s.3 (start_no_space b.0 b.3) in
    ap (attributes_at n found) e
    ∙ attributes_next n found (front ++ (s.1 ++ more)) r more (omega arith) (ap (starts NameStart) skips ∙ b.3) (begins_blank front (s.1 ++ more) s.3 s.4) (ap raw_attribute_at (skips ∙ sym b.2) ∙ raw_again s.1 r more s.5)
    ∙ attributes_again rs s.2 gap c x (n - 1) (found ++ r ∷ []) s.6 blank no_space no_name (omega (arith, long, s.4))
    ∙ ap (λ (f : List Raw). Ok (f, c ∷ x)) (append_assoc found (r ∷ []) rs)

-- ---- tags

raws_end : (rs : List Raw) (text gap : List ℕ) (c : ℕ) (x : List ℕ) → SpellsRaws rs text → IsBlank gap → holds NamePart c ≡ false → eqb c 58 ≡ false → Ends (text ++ (gap ++ c ∷ x))
raws_end [] text gap c x none blank part colon = subst (λ (t : List ℕ). Ends (t ++ (gap ++ c ∷ x))) (sym none) (blank_ends gap c x blank part colon)
raws_end (r ∷ rs) text gap c x s blank part colon = subst (λ (t : List ℕ). Ends (t ++ (gap ++ c ∷ x))) (sym s.7) (go s.0 s.3 s.4)
  where
    go : (front : List ℕ) → IsBlank front → 0 < length front → Ends ((front ++ s.1 ++ s.2) ++ (gap ++ c ∷ x))
    go [] blank some = absurd (omega arith)
    go (g ∷ front) blank some =
        let p = both (holds Space g) (list_all (holds Space) front) blank in
        ends_at g _ (space_no_part g p.0) (space_no_colon g p.0)

tag_go : (name : Spelling) (rs : List Raw) (raws gap : List ℕ) (empty : Bool) (rest : List ℕ) → IsSpelling name → SpellsRaws rs raws → IsBlank gap → tag_at (spell name ++ (raws ++ (gap ++ (tag_end empty ++ rest)))) ≡ Ok (record { name = name; attributes = rs; is_empty = empty }, rest)
unfolding tag_at
tag_go name rs raws gap true rest is s blank =
    let after : List ℕ = gap ++ 47 ∷ 62 ∷ rest in
    rw (
      spelled_again name (raws ++ after) is (raws_end rs raws gap 47 (62 ∷ rest) s blank refl refl),
      attributes_again rs raws gap 47 (62 ∷ rest) (length (raws ++ after)) [] s blank refl refl (omega (arith, length-append raws after, length-append gap (47 ∷ 62 ∷ rest))),
    ) refl
tag_go name rs raws gap false rest is s blank =
    let after : List ℕ = gap ++ 62 ∷ rest in
    rw (
      spelled_again name (raws ++ after) is (raws_end rs raws gap 62 rest s blank refl refl),
      attributes_again rs raws gap 62 rest (length (raws ++ after)) [] s blank refl refl (omega (arith, length-append raws after, length-append gap (62 ∷ rest))),
    ) refl

pub tag_again : (text : List ℕ) (t : Tag) (rest : List ℕ) → SpellsTag text t → tag_at (text ++ rest) ≡ Ok (t, rest)
tag_again text t rest s =
    let regrouped : text ++ rest ≡ spell t.name ++ (s.raws ++ (s.gap ++ (tag_end t.is_empty ++ rest))) = ap (λ (x : List ℕ). x ++ rest) s.whole ∙ simp append_assoc in
    ap tag_at regrouped ∙ tag_go t.name t.attributes s.raws s.gap t.is_empty rest s.name s.attributes s.blank

pub head_again : (scope : List Bound) (text : List ℕ) (h : Head) (rest : List ℕ) → SpellsHead scope text h → head_at scope (text ++ rest) ≡ Ok (h, rest)
unfolding head_at unless
head_again scope text h rest s =
    rw (tag_again text (record { name = h.spelling; attributes = s.raws; is_empty = h.is_empty }) rest s.tag, s.spelled_once, s.declared, s.named_once, s.known, s.name)
    (ap (λ (inner : List Bound). Ok (record { spelling = h.spelling; name = h.name; attributes = attributes_in (scope ++ s.own) s.raws; is_empty = h.is_empty; scope = inner }, rest)) (sym s.inner)
    ∙ ap (λ (all : List Attribute). Ok (record { spelling = h.spelling; name = h.name; attributes = all; is_empty = h.is_empty; scope = h.scope }, rest)) (sym s.attributes))

pub begins_head : (scope : List Bound) (text : List ℕ) (h : Head) → SpellsHead scope text h → (c : ℕ) × (cs : List ℕ) × (text ≡ c ∷ cs) × (holds NameStart c ≡ true)
begins_head scope text h s =
    let more : List ℕ = s.tag.raws ++ (s.tag.gap ++ tag_end h.is_empty) in
    let b = begins_spelling h.spelling more s.tag.name in
    (b.0, b.1, (s.tag.whole ∙ simp append_assoc) ∙ b.2, b.3)

-- ---- comments and sections

pub comment_again : (text rest : List ℕ) → contains word.Dashes text ≡ false → remark_at (45 ∷ 45 ∷ (text ++ 45 ∷ 45 ∷ 62 ∷ rest)) ≡ Ok rest
unfolding remark_at comment_at unless letters_at letter_at
comment_again text rest none = rw (comment_split text rest none, none) refl

pub section_again : (text rest : List ℕ) → contains word.SectionEnd text ≡ false → marked_at (91 ∷ 67 ∷ 68 ∷ 65 ∷ 84 ∷ 65 ∷ 91 ∷ (text ++ 93 ∷ 93 ∷ 62 ∷ rest)) ≡ Ok (text, rest)
unfolding marked_at letters_at letter_at
section_again text rest none = section_split text rest none

pub marked_comment : (text rest : List ℕ) → contains word.Dashes text ≡ false → marked_at (45 ∷ 45 ∷ (text ++ 45 ∷ 45 ∷ 62 ∷ rest)) ≡ Ok ([], rest)
unfolding marked_at letters_at letter_at
marked_comment text rest none = rw (comment_again text rest none) refl
