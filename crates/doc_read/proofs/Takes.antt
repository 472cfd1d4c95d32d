-- What is read as a part is spelled so.
use Rattle.std.proofs.Common.{◌≡◌, ℕ, zero, suc, ◌+◌, ◌<◌, Bool, true, false, cond, not, ◌||◌, eqb, List, [], ◌∷◌, ◌++◌, length, map, take, drop, Result, Ok, Err, refl, sym, ap, subst, ◌∙◌, append_assoc, arith, inl, inr}
use Rattle.std.specs.Prelude.{encode_utf8, encode_utf8_all}
use Rattle.std.specs.List.{list_all, prefix_len}
use Rattle.std.specs.Str.{bytes_eq}
use Rattle.std.proofs.lemmas.Bool.{eqb-true}
use Rattle.std.proofs.lemmas.Slice.Eq.{bytes_eq-Decides}
use Rattle.std.proofs.lemmas.Bool.Decides.{nat_tests}
use Rattle.std.proofs.lemmas.List.{append-nil, take-append-drop}
use Rattle.wfs_ends.specs.Read.{◌>>=◌, until, unless}
use Rattle.wfs_ends.proofs.Turns.{bind_ok, if_ok, chosen, ok_is}
use Rattle.doc_read.specs.declared.fault.DocFault.{DocFault}
use Rattle.doc_read.specs.declared.fault.DocFault.TheVariants.{Malformed, Prefix, Doctype}
use Rattle.doc_read.specs.declared.lex.Class.{Class}
use Rattle.doc_read.specs.declared.lex.Class.TheVariants.{Space, NameStart, NamePart, Value, Decimal, Hexadecimal}
use Rattle.doc_read.specs.declared.word.Word.TheVariants as word
use Rattle.doc_tree.specs.Characters.{is_allowed}
use Rattle.doc_read.specs.Chars.{holds, starts, split_front, skip_space, expected_at, letters, word_at, begins, contains, split_word}
use Rattle.doc_read.specs.Lex.{Spelling, Raw, Tag, Part, part, plain, name_at, local_at, spelled_at, named_reference, name_reference_at, number, number_reference_at, numbered_at, reference_at, value_turn, inside_value, value_at, raw_attribute_at, attributes_at, tag_at, tag_end_at, slash_at}
use Rattle.doc_read.specs.declared.scope.Bound.{Bound}
use Rattle.doc_read.specs.Scope.{has_twins, same_pair, spellings, expanded_names, same_spelling, declared_at, attributes_in, has_unknown, element_name}
use Rattle.doc_read.specs.Element.{Head, head_at, closed_at, comment_at, remark_at}
use Rattle.doc_read.specs.Grammar.{IsName, IsBlank, IsQuote, IsPrefix, IsSpelling, spell, Reference, named, decimal, hexadecimal, print_reference, IsNumber, IsReference, Written, ended, refers, print_written, written_text, IsWritten, SpellsRaw, SpellsRaws, SpellsTag, SpellsHead, tag_end}
use Rattle.doc_read.proofs.Fronts.{both}
use Rattle.doc_read.proofs.Marks.{done, expected_takes, word_takes, split_takes_word}

pub is_it : {A : Type 0} (x y : A) → done x ≡ done y → x ≡ y
is_it x y e = ok_is DocFault x y e

pub unless_ok : (b : Bool) (d : DocFault) (x : Unit {0}) → unless b d ≡ Ok x → b ≡ false
unfolding unless
unless_ok true d x e = absurd cc
unless_ok false d x e = refl

pub not_false : (b : Bool) → not b ≡ false → b ≡ true
not_false true h = refl
not_false false h = absurd cc

-- ---- fronts and names

start_is_part : (c : ℕ) → holds NameStart c ≡ true → holds NamePart c ≡ true
start_is_part c h = grind (arith, nat_tests)

front_all : (class : Class) (cs : List ℕ) → list_all (holds class) (take (prefix_len (holds class) cs) cs) ≡ true
front_all class [] = refl
front_all class (c ∷ cs) = go (holds class c) refl (front_all class cs)
  where
    go : (b : Bool) → holds class c ≡ b → list_all (holds class) (take (prefix_len (holds class) cs) cs) ≡ true → list_all (holds class) (take (cond b (1 + prefix_len (holds class) cs) 0) (c ∷ cs)) ≡ true
    go true is others =
        let k : 1 + prefix_len (holds class) cs ≡ suc (prefix_len (holds class) cs) = omega arith in
        rw (k, is) others
    go false is others = refl

back_stops : (class : Class) (cs : List ℕ) → starts class (drop (prefix_len (holds class) cs) cs) ≡ false
back_stops class [] = refl
back_stops class (c ∷ cs) = go (holds class c) refl (back_stops class cs)
  where
    go : (b : Bool) → holds class c ≡ b → starts class (drop (prefix_len (holds class) cs) cs) ≡ false → starts class (drop (cond b (1 + prefix_len (holds class) cs) 0) (c ∷ cs)) ≡ false
    go true is others =
        let k : 1 + prefix_len (holds class) cs ≡ suc (prefix_len (holds class) cs) = omega arith in
        rw k others
    go false is others = is

pub split_takes : (class : Class) (cs a b : List ℕ) → split_front class cs ≡ (a, b) → (cs ≡ a ++ b) × (list_all (holds class) a ≡ true) × (starts class b ≡ false)
unfolding split_front
split_takes class cs a b e =
    let n = prefix_len (holds class) cs in
    let a-is : take n cs ≡ a = ap (λ (p : List ℕ × List ℕ). p.0) e in
    let b-is : drop n cs ≡ b = ap (λ (p : List ℕ × List ℕ). p.1) e in
    (rw (← a-is, ← b-is) (sym (take-append-drop n cs)), rw (← a-is) (front_all class cs), rw (← b-is) (back_stops class cs))

pub skip_takes : (cs : List ℕ) → (gap : List ℕ) × IsBlank gap × (cs ≡ gap ++ skip_space cs)
skip_takes cs = let p = split_takes Space cs _ _ refl in ((split_front Space cs).0, p.1, p.0)

first_kept : (class : Class) (c : ℕ) (cs front rest : List ℕ) → holds class c ≡ true → split_front class (c ∷ cs) ≡ (front, rest) → (more : List ℕ) × (front ≡ c ∷ more)
unfolding split_front
first_kept class c cs front rest start e =
    let k : 1 + prefix_len (holds class) cs ≡ suc (prefix_len (holds class) cs) = omega arith in
    let n-is : take (cond (holds class c) (1 + prefix_len (holds class) cs) 0) (c ∷ cs) ≡ front = ap (λ (p : List ℕ × List ℕ). p.0) e in
    let kept : take (cond (holds class c) (1 + prefix_len (holds class) cs) 0) (c ∷ cs) ≡ c ∷ take (prefix_len (holds class) cs) cs = rw (start, k) refl in
    (take (prefix_len (holds class) cs) cs, sym n-is ∙ kept)

pub name_takes : (cs n rest : List ℕ) → name_at cs ≡ Ok (n, rest) → IsName n × (cs ≡ n ++ rest)
unfolding name_at
name_takes [] n rest e = absurd cc
name_takes (c ∷ cs) n rest e =
    let g = if_ok (holds NameStart c) (done (split_front NamePart (c ∷ cs))) Malformed (n, rest) e in
    let is = is_it (split_front NamePart (c ∷ cs)) (n, rest) g.1 in
    let p = split_takes NamePart (c ∷ cs) n rest is in
    let f = first_kept NamePart c cs n rest (start_is_part c g.0) is in
    (record { first = ap (starts NameStart) f.1 ∙ g.0; each = p.1 }, p.0)

-- a name is a prefix, and has a colon behind it
prefixed : (n local : List ℕ) → IsName n → IsPrefix n × (spell (record { prefix = n; local = local }) ≡ n ++ 58 ∷ local)
prefixed [] local is = absurd (cc is.first)
prefixed (c ∷ cs) local is = (is, refl)

local_takes : (n cs : List ℕ) (s : Spelling) (rest : List ℕ) → IsName n → local_at n cs ≡ Ok (s, rest) → IsSpelling s × (n ++ cs ≡ spell s ++ rest)
local_takes n [] s rest is e =
    let alone : Spelling = record { prefix = []; local = n } in
    subst (λ (p : Spelling × List ℕ). IsSpelling p.0 × (n ++ [] ≡ spell p.0 ++ p.1)) (is_it (alone, []) (s, rest) e) (record { prefix = tt; local = is }, refl)
local_takes n (c ∷ cs) s rest is e =
    let alone : Spelling = record { prefix = []; local = n } in
    elim (chosen (eqb c 58) (name_at cs >>= λ m. Ok (record { prefix = n; local = m.0 }, m.1)) (done (alone, c ∷ cs)) (Ok (s, rest)) e) [
      | inl h ↦
          let b = bind_ok (name_at cs) (λ m. Ok (record { prefix = n; local = m.0 }, m.1)) (s, rest) h.1 in
          let m = name_takes cs b.0.0 b.0.1 b.1 in
          let p = prefixed n b.0.0 is in
          let both_names : Spelling = record { prefix = n; local = b.0.0 } in
          let colon : c ≡ 58 = eqb-true c 58 h.0 in
          let whole : n ++ c ∷ cs ≡ spell both_names ++ b.0.1 = ap (λ (k : ℕ). n ++ k ∷ cs) colon ∙ ap (λ (x : List ℕ). n ++ 58 ∷ x) m.1 ∙ sym (append_assoc n (58 ∷ b.0.0) b.0.1) ∙ ap (λ (x : List ℕ). x ++ b.0.1) (sym p.1) in
          subst (λ (q : Spelling × List ℕ). IsSpelling q.0 × (n ++ c ∷ cs ≡ spell q.0 ++ q.1)) (is_it (both_names, b.0.1) (s, rest) b.2) (record { prefix = p.0; local = m.0 }, whole)
      | inr h ↦ subst (λ (p : Spelling × List ℕ). IsSpelling p.0 × (n ++ c ∷ cs ≡ spell p.0 ++ p.1)) (is_it (alone, c ∷ cs) (s, rest) h.1) (record { prefix = tt; local = is }, refl)
    ]

pub spelled_takes : (cs : List ℕ) (s : Spelling) (rest : List ℕ) → spelled_at cs ≡ Ok (s, rest) → IsSpelling s × (cs ≡ spell s ++ rest)
unfolding spelled_at
spelled_takes cs s rest e =
    let b = bind_ok (name_at cs) (λ n. local_at n.0 n.1) (s, rest) e in
    let n = name_takes cs b.0.0 b.0.1 b.1 in
    let l = local_takes b.0.0 b.0.1 s rest n.0 b.2 in
    (l.0, n.1 ∙ l.1)

same_is : (a b : Spelling) → same_spelling a b ≡ true → spell a ≡ spell b
same_is a b e =
    let p = both (bytes_eq a.prefix b.prefix) (bytes_eq a.local b.local) e in
    let prefix : a.prefix ≡ b.prefix = (bytes_eq-Decides a.prefix b.prefix).0 p.0 in
    let local : a.local ≡ b.local = (bytes_eq-Decides a.local b.local).0 p.1 in
    ap (λ (x : List ℕ). spell (record { prefix = x; local = a.local })) prefix ∙ ap (λ (x : List ℕ). spell (record { prefix = b.prefix; local = x })) local

pub closed_takes : (s : Spelling) (cs rest : List ℕ) → closed_at s cs ≡ Ok rest → (gap : List ℕ) × IsBlank gap × (cs ≡ spell s ++ (gap ++ 62 ∷ rest))
unfolding closed_at
closed_takes s cs rest e =
    let b = bind_ok (spelled_at cs) (λ n. cond (same_spelling n.0 s) (expected_at 62 (skip_space n.1)) (Err Malformed)) rest e in
    let n = spelled_takes cs b.0.0 b.0.1 b.1 in
    let g = if_ok (same_spelling b.0.0 s) (expected_at 62 (skip_space b.0.1)) Malformed rest b.2 in
    let k = skip_takes b.0.1 in
    let end : b.0.1 ≡ k.0 ++ 62 ∷ rest = k.2 ∙ ap (λ (x : List ℕ). k.0 ++ x) (expected_takes 62 (skip_space b.0.1) rest g.1) in
    (k.0, k.1, n.1 ∙ ap (λ (x : List ℕ). spell b.0.0 ++ x) end ∙ ap (λ (x : List ℕ). x ++ (k.0 ++ 62 ∷ rest)) (same_is b.0.0 s g.0))

-- ---- references

pub record ReadReference (cs : List ℕ) (c : ℕ) (rest : List ℕ) : Type 0 where
  pub reference : Reference
  pub fits : IsReference reference c
  pub printed : cs ≡ print_reference reference ++ 59 ∷ rest

name_reference_takes : (cs : List ℕ) (c : ℕ) (rest : List ℕ) → name_reference_at cs ≡ Ok (c, rest) → ReadReference cs c rest
unfolding name_reference_at
name_reference_takes cs x rest e =
    let a = bind_ok (name_at cs) (λ name. expected_at 59 name.1 >>= λ rest. named_reference name.0 >>= λ c. Ok (c, rest)) (x, rest) e in
    let b = bind_ok (expected_at 59 a.0.1) (λ rest. named_reference a.0.0 >>= λ c. Ok (c, rest)) (x, rest) a.2 in
    let c = bind_ok (named_reference a.0.0) (λ c. Ok (c, b.0)) (x, rest) b.2 in
    let is = is_it (c.0, b.0) (x, rest) c.2 in
    let n = name_takes cs a.0.0 a.0.1 a.1 in
    subst (λ (p : ℕ × List ℕ). ReadReference cs p.0 p.1) is
    (record { reference = named a.0.0; fits = (n.0, c.1); printed = n.1 ∙ ap (λ (y : List ℕ). a.0.0 ++ y) (expected_takes 59 a.0.1 b.0 b.1) })

pub record ReadNumber (class : Class) (base : ℕ) (cs : List ℕ) (c : ℕ) (rest : List ℕ) : Type 0 where
  pub digits : List ℕ
  pub fits : IsNumber class base digits c
  pub printed : cs ≡ digits ++ 59 ∷ rest

first_digit : (class : Class) (cs front rest : List ℕ) → starts class cs ≡ true → split_front class cs ≡ (front, rest) → starts class front ≡ true
first_digit class [] front rest start is = absurd cc
first_digit class (c ∷ cs) front rest start is = ap (starts class) (first_kept class c cs front rest start is).1 ∙ start

number_takes : (class : Class) (base : ℕ) (cs : List ℕ) (c : ℕ) (rest : List ℕ) → number_reference_at class base cs ≡ Ok (c, rest) → ReadNumber class base cs c rest
unfolding number_reference_at
number_takes class base cs c rest e =
    let front = (split_front class cs).0 in
    let value = number base 0 front in
    let a = bind_ok (unless (not (starts class cs)) Malformed) (λ some. expected_at 59 (split_front class cs).1 >>= λ rest. unless (not (is_allowed value)) Malformed >>= λ allowed. Ok (value, rest)) (c, rest) e in
    let b = bind_ok (expected_at 59 (split_front class cs).1) (λ rest. unless (not (is_allowed value)) Malformed >>= λ allowed. Ok (value, rest)) (c, rest) a.2 in
    let d = bind_ok (unless (not (is_allowed value)) Malformed) (λ allowed. Ok (value, b.0)) (c, rest) b.2 in
    let is = is_it (value, b.0) (c, rest) d.2 in
    let p = split_takes class cs _ _ refl in
    let starts_so = not_false (starts class cs) (unless_ok (not (starts class cs)) Malformed a.0 a.1) in
    let allowed = not_false (is_allowed value) (unless_ok (not (is_allowed value)) Malformed d.0 d.1) in
    subst (λ (q : ℕ × List ℕ). ReadNumber class base cs q.0 q.1) is (record {
      digits = front;
      fits = record { some = first_digit class cs _ _ starts_so refl; each = p.1; allowed = allowed; value = refl };
      printed = p.0 ∙ ap (λ (x : List ℕ). front ++ x) (expected_takes 59 (split_front class cs).1 b.0 b.1);
    })

decimal_is : (cs : List ℕ) (c : ℕ) (rest : List ℕ) → ReadNumber Decimal 10 cs c rest → ReadReference (35 ∷ cs) c rest
decimal_is cs c rest k = record { reference = decimal k.digits; fits = k.fits; printed = ap (λ (x : List ℕ). 35 ∷ x) k.printed }

numbered_takes : (cs : List ℕ) (c : ℕ) (rest : List ℕ) → numbered_at cs ≡ Ok (c, rest) → ReadReference (35 ∷ cs) c rest
unfolding numbered_at
numbered_takes [] c rest e = decimal_is [] c rest (number_takes Decimal 10 [] c rest e)
numbered_takes (x ∷ xs) c rest e =
    elim (chosen (eqb x 120) (number_reference_at Hexadecimal 16 xs) (number_reference_at Decimal 10 (x ∷ xs)) (Ok (c, rest)) e) [
      | inl h ↦
          let k = number_takes Hexadecimal 16 xs c rest h.1 in
          record { reference = hexadecimal k.digits; fits = k.fits; printed = ap (λ (n : ℕ). 35 ∷ n ∷ xs) (eqb-true x 120 h.0) ∙ ap (λ (y : List ℕ). 35 ∷ 120 ∷ y) k.printed }
      | inr h ↦ decimal_is (x ∷ xs) c rest (number_takes Decimal 10 (x ∷ xs) c rest h.1)
    ]

pub reference_takes : (cs : List ℕ) (c : ℕ) (rest : List ℕ) → reference_at cs ≡ Ok (c, rest) → ReadReference cs c rest
unfolding reference_at
reference_takes [] c rest e = name_reference_takes [] c rest e
reference_takes (x ∷ xs) c rest e =
    elim (chosen (eqb x 35) (numbered_at xs) (name_reference_at (x ∷ xs)) (Ok (c, rest)) e) [
      | inl h ↦ subst (λ (k : ℕ). ReadReference (k ∷ xs) c rest) (sym (eqb-true x 35 h.0)) (numbered_takes xs c rest h.1)
      | inr h ↦ name_reference_takes (x ∷ xs) c rest h.1
    ]

-- ---- values

-- what was read of a value from a place on
pub record ReadValue (q : ℕ) (s t : Part) : Type 0 where
  pub written : Written
  pub fits : IsWritten q written
  pub means : t.text ≡ s.text ++ written_text written
  pub printed : s.rest ≡ print_written written ++ q ∷ t.rest

-- a run in front of what stands there
abbrev with_run : List ℕ → Written → Written
with_run run (ended r) = ended (run ++ r)
with_run run (refers r x c w) = refers (run ++ r) x c w

all_both : (p : ℕ → Bool) (a b : List ℕ) → list_all p a ≡ true → list_all p b ≡ true → list_all p (a ++ b) ≡ true
all_both p [] b ha hb = hb
all_both p (c ∷ a) b ha hb = let h = both (p c) (list_all p a) ha in rw h.0 (all_both p a b h.1 hb)

plains_both : (a b : List ℕ) → encode_utf8_all (map plain (a ++ b)) ≡ encode_utf8_all (map plain a) ++ encode_utf8_all (map plain b)
plains_both [] b = refl
plains_both (c ∷ a) b = ap (λ (x : List ℕ). encode_utf8 (plain c) ++ x) (plains_both a b) ∙ sym (append_assoc (encode_utf8 (plain c)) (encode_utf8_all (map plain a)) (encode_utf8_all (map plain b)))

run_fits : (q : ℕ) (run : List ℕ) (w : Written) → list_all (holds (Value q)) run ≡ true → IsWritten q w → IsWritten q (with_run run w)
run_fits q run (ended r) is fits = all_both (holds (Value q)) run r is fits
run_fits q run (refers r x c w) is fits = (all_both (holds (Value q)) run r is fits.0, fits.1, fits.2)

run_prints : (run : List ℕ) (w : Written) → print_written (with_run run w) ≡ run ++ print_written w
run_prints run (ended r) = refl
run_prints run (refers r x c w) = append_assoc run r _

run_text : (run : List ℕ) (w : Written) → written_text (with_run run w) ≡ encode_utf8_all (map plain run) ++ written_text w
run_text run (ended r) = plains_both run r
run_text run (refers r x c w) = ap (λ (y : List ℕ). y ++ (encode_utf8 c ++ written_text w)) (plains_both run r) ∙ append_assoc (encode_utf8_all (map plain run)) (encode_utf8_all (map plain r)) (encode_utf8 c ++ written_text w)

value_ran : (q : ℕ) (text run more : List ℕ) (t : Part) → list_all (holds (Value q)) run ≡ true → ReadValue q (part (text ++ encode_utf8_all (map plain run)) more) t → ReadValue q (part text (run ++ more)) t
value_ran q text run more t is k = record {
  written = with_run run k.written;
  fits = run_fits q run k.written is k.fits;
  means = k.means ∙ append_assoc text (encode_utf8_all (map plain run)) (written_text k.written) ∙ ap (λ (x : List ℕ). text ++ x) (sym (run_text run k.written));
  printed = ap (λ (x : List ℕ). run ++ x) k.printed ∙ sym (append_assoc run (print_written k.written) (q ∷ t.rest)) ∙ ap (λ (x : List ℕ). x ++ q ∷ t.rest) (sym (run_prints run k.written));
}

value_referred : (q : ℕ) (text : List ℕ) (r : Reference) (c : ℕ) (more : List ℕ) (t : Part) → IsReference r c → ReadValue q (part (text ++ encode_utf8 c) more) t → ReadValue q (part text (38 ∷ (print_reference r ++ 59 ∷ more))) t
value_referred q text r c more t is k = record {
  written = refers [] r c k.written;
  fits = (refl, is, k.fits);
  means = k.means ∙ append_assoc text (encode_utf8 c) (written_text k.written);
  printed = ap (λ (x : List ℕ). 38 ∷ (print_reference r ++ 59 ∷ x)) k.printed ∙ simp append_assoc;
}

value_ended : (q : ℕ) (text rest : List ℕ) (t : Part) → part text rest ≡ t → ReadValue q (part text (q ∷ rest)) t
value_ended q text rest t is = subst (λ (t : Part). ReadValue q (part text (q ∷ rest)) t) is (record { written = ended []; fits = refl; means = sym (append-nil text); printed = refl })

after_value_turn : (q : ℕ) (text cs : List ℕ) (b : Bool) (s t : Part) → value_turn q (part text cs) ≡ Ok (b, s) → (b ≡ true → s ≡ t) → (b ≡ false → ReadValue q s t) → ReadValue q (part text cs) t
unfolding value_turn
after_value_turn q text [] b s t e stops again = absurd cc
after_value_turn q text (c ∷ cs) b s t e stops again =
    let front = (split_front (Value q) (c ∷ cs)).0 in
    let back = (split_front (Value q) (c ∷ cs)).1 in
    let ends : Result (Bool × Part) DocFault = Ok (true, part text cs) in
    let refers_to : Result (Bool × Part) DocFault = reference_at cs >>= λ x. Ok (false, part (text ++ encode_utf8 x.0) x.1) in
    let runs_on : Result (Bool × Part) DocFault = Ok (false, part (text ++ encode_utf8_all (map plain front)) back) in
    elim (chosen (eqb c q) ends (cond (eqb c 60) (Err Malformed) (cond (eqb c 38) refers_to runs_on)) (Ok (b, s)) e) [
      | inl h ↦
          let is = is_it (true, part text cs) (b, s) h.1 in
          let e' : part text cs ≡ t = ap (λ (p : Bool × Part). p.1) is ∙ stops (sym (ap (λ (p : Bool × Part). p.0) is)) in
          subst (λ (k : ℕ). ReadValue q (part text (k ∷ cs)) t) (sym (eqb-true c q h.0)) (value_ended q text cs t e')
      | inr g ↦ elim (chosen (eqb c 60) (Err Malformed) (cond (eqb c 38) refers_to runs_on) (Ok (b, s)) g.1) [
        | inl h ↦ absurd (cc h.1)
        | inr f ↦ elim (chosen (eqb c 38) refers_to runs_on (Ok (b, s)) f.1) [
          | inl h ↦
              let r = bind_ok (reference_at cs) (λ x. Ok (false, part (text ++ encode_utf8 x.0) x.1)) (b, s) h.1 in
              let is = is_it (false, part (text ++ encode_utf8 r.0.0) r.0.1) (b, s) r.2 in
              let k = reference_takes cs r.0.0 r.0.1 r.1 in
              let more = again (sym (ap (λ (p : Bool × Part). p.0) is)) in
              let more' = subst (λ (p : Part). ReadValue q p t) (sym (ap (λ (p : Bool × Part). p.1) is)) more in
              let printed : c ∷ cs ≡ 38 ∷ (print_reference k.reference ++ 59 ∷ r.0.1) = ap (λ (n : ℕ). n ∷ cs) (eqb-true c 38 h.0) ∙ ap (λ (ys : List ℕ). 38 ∷ ys) k.printed in
              subst (λ (ys : List ℕ). ReadValue q (part text ys) t) (sym printed) (value_referred q text k.reference r.0.0 r.0.1 t k.fits more')
          | inr h ↦
              let is = is_it (false, part (text ++ encode_utf8_all (map plain front)) back) (b, s) h.1 in
              let p = split_takes (Value q) (c ∷ cs) _ _ refl in
              let k = again (sym (ap (λ (x : Bool × Part). x.0) is)) in
              let k' = subst (λ (x : Part). ReadValue q x t) (sym (ap (λ (x : Bool × Part). x.1) is)) k in
              subst (λ (x : List ℕ). ReadValue q (part text x) t) (sym p.0) (value_ran q text front back t p.1 k')
        ]
      ]
    ]

written_takes : (q n : ℕ) (s t : Part) → until Malformed (value_turn q) n s ≡ Ok t → ReadValue q s t
unfolding until
written_takes q zero s t e = absurd cc
written_takes q (suc n) s t e =
    let b = bind_ok (value_turn q s) (λ r. cond r.0 (Ok r.1) (until Malformed (value_turn q) n r.1)) t e in
    after_value_turn q s.text s.rest b.0.0 b.0.1 t b.1
    (λ is. is_it b.0.1 t (subst (λ (k : Bool). cond k (Ok b.0.1) (until Malformed (value_turn q) n b.0.1) ≡ Ok t) is b.2))
    (λ is. written_takes q n b.0.1 t (subst (λ (k : Bool). cond k (Ok b.0.1) (until Malformed (value_turn q) n b.0.1) ≡ Ok t) is b.2))

pub quote_is : (q : ℕ) (a b : Bool) → eqb q 34 ≡ a → eqb q 39 ≡ b → (a || b) ≡ true → IsQuote q
quote_is q true b is-a is-b h = inl (eqb-true q 34 is-a)
quote_is q false true is-a is-b h = inr (eqb-true q 39 is-b)
quote_is q false false is-a is-b h = absurd cc

value_takes : (cs v rest : List ℕ) → value_at cs ≡ Ok (v, rest) → (q : ℕ) × (w : Written) × IsQuote q × IsWritten q w × (written_text w ≡ v) × (cs ≡ q ∷ (print_written w ++ q ∷ rest))
unfolding value_at
value_takes [] v rest e = absurd cc
value_takes (q ∷ cs) v rest e =
    let g = if_ok (eqb q 34 || eqb q 39) (inside_value q cs >>= λ v. Ok (v.text, v.rest)) Malformed (v, rest) e in
    let b = bind_ok (inside_value q cs) (λ v. Ok (v.text, v.rest)) (v, rest) g.1 in
    let is = is_it (b.0.text, b.0.rest) (v, rest) b.2 in
    let k = written_takes q (length cs) (part [] cs) b.0 b.1 in
    let means : written_text k.written ≡ v = sym k.means ∙ ap (λ (p : List ℕ × List ℕ). p.0) is in
    (q, k.written, quote_is q (eqb q 34) (eqb q 39) refl refl g.0, k.fits, means, ap (λ (x : List ℕ). q ∷ x) (k.printed ∙ ap (λ (p : List ℕ × List ℕ). print_written k.written ++ q ∷ p.1) is))

-- ---- attributes

pub raw_takes : (cs : List ℕ) (r : Raw) (rest : List ℕ) → raw_attribute_at cs ≡ Ok (r, rest) → (text : List ℕ) × SpellsRaw text r × (cs ≡ text ++ rest)
unfolding raw_attribute_at
raw_takes cs r rest e =
    let a = bind_ok (spelled_at cs) (λ name. expected_at 61 (skip_space name.1) >>= λ after. value_at (skip_space after) >>= λ value. Ok (record { name = name.0; value = value.0 }, value.1)) (r, rest) e in
    let b = bind_ok (expected_at 61 (skip_space a.0.1)) (λ after. value_at (skip_space after) >>= λ value. Ok (record { name = a.0.0; value = value.0 }, value.1)) (r, rest) a.2 in
    let c = bind_ok (value_at (skip_space b.0)) (λ value. Ok (record { name = a.0.0; value = value.0 }, value.1)) (r, rest) b.2 in
    let n = spelled_takes cs a.0.0 a.0.1 a.1 in
    let before = skip_takes a.0.1 in
    let sign = expected_takes 61 (skip_space a.0.1) b.0 b.1 in
    let after = skip_takes b.0 in
    let v = value_takes (skip_space b.0) c.0.0 c.0.1 c.1 in
    let made_raw : Raw = record { name = a.0.0; value = c.0.0 } in
    let text : List ℕ = spell a.0.0 ++ before.0 ++ 61 ∷ after.0 ++ v.0 ∷ print_written v.1 ++ v.0 ∷ [] in
    let whole : cs ≡ text ++ c.0.1 =
    n.1 ∙ ap (λ (x : List ℕ). spell a.0.0 ++ x) (before.2 ∙ ap (λ (x : List ℕ). before.0 ++ x) (sign ∙ ap (λ (x : List ℕ). 61 ∷ x) (after.2 ∙ ap (λ (x : List ℕ). after.0 ++ x) v.5)))
    ∙ simp append_assoc in
    let spelled : SpellsRaw text made_raw = record { before = before.0; after = after.0; quote = v.0; written = v.1; name = n.0; before_blank = before.1; after_blank = after.1; quotes = v.2; value = v.3; means = v.4; whole = refl } in
    subst (λ (p : Raw × List ℕ). (text : List ℕ) × SpellsRaw text p.0 × (cs ≡ text ++ p.1)) (is_it (made_raw, c.0.1) (r, rest) c.2) (text, spelled, whole)

some_blank : (gap cs : List ℕ) (rest : List ℕ) → starts Space cs ≡ true → starts NameStart rest ≡ true → cs ≡ gap ++ rest → 0 < length gap
some_blank [] cs [] space name e = absurd cc
some_blank [] cs (c ∷ rest) space name e = absurd (clash c name (ap (starts Space) (sym e) ∙ space))
  where
    clash : (c : ℕ) → holds NameStart c ≡ true → holds Space c ≡ true → ⊥
    clash c name space = grind (arith, nat_tests)
some_blank (g ∷ gap) cs rest space name e = omega arith

pub attributes_takes : (n : ℕ) (found : List Raw) (cs : List ℕ) (all : List Raw) (rest : List ℕ) → attributes_at n found cs ≡ Ok (all, rest) → (rs : List Raw) × (text : List ℕ) × (gap : List ℕ) × (all ≡ found ++ rs) × SpellsRaws rs text × IsBlank gap × (cs ≡ text ++ (gap ++ rest))
unfolding attributes_at
attributes_takes zero found cs all rest e = absurd cc
attributes_takes (suc n) found cs all rest e =
    let gap = skip_takes cs in
    let next : Result (List Raw × List ℕ) DocFault = raw_attribute_at (skip_space cs) >>= λ a. attributes_at n (found ++ a.0 ∷ []) a.1 in
    elim (chosen (starts NameStart (skip_space cs)) (cond (starts Space cs) next (Err Malformed)) (done (found, skip_space cs)) (Ok (all, rest)) e) [
      | inl h ↦
          let g = if_ok (starts Space cs) next Malformed (all, rest) h.1 in
          let a = bind_ok (raw_attribute_at (skip_space cs)) (λ a. attributes_at n (found ++ a.0 ∷ []) a.1) (all, rest) g.1 in
          let r = raw_takes (skip_space cs) a.0.0 a.0.1 a.1 in
          let o = attributes_takes n (found ++ a.0.0 ∷ []) a.0.1 all rest a.2 in
          let some = some_blank gap.0 cs (skip_space cs) g.0 h.0 gap.2 in (
            a.0.0 ∷ o.0,
            gap.0 ++ r.0 ++ o.1,
            o.2,
            o.3 ∙ append_assoc found (a.0.0 ∷ []) o.0,
            (gap.0, r.0, o.1, gap.1, some, r.1, o.4, refl),
            o.5,
            gap.2 ∙ ap (λ (x : List ℕ). gap.0 ++ x) (r.2 ∙ ap (λ (x : List ℕ). r.0 ++ x) o.6) ∙ simp append_assoc,
          )
      | inr h ↦
          let is = is_it (found, skip_space cs) (all, rest) h.1 in
          subst (λ (p : List Raw × List ℕ). (rs : List Raw) × (text : List ℕ) × (gap : List ℕ) × (p.0 ≡ found ++ rs) × SpellsRaws rs text × IsBlank gap × (cs ≡ text ++ (gap ++ p.1))) is
          ([], [], gap.0, sym (append-nil found), refl, gap.1, gap.2)
    ]

-- ---- tags

slash_takes : (cs : List ℕ) (b : Bool) (rest : List ℕ) → slash_at cs ≡ Ok (b, rest) → 47 ∷ cs ≡ tag_end b ++ rest
slash_takes [] b rest e = absurd cc
slash_takes (c ∷ cs) b rest e =
    let g = if_ok (eqb c 62) (done (true, cs)) Malformed (b, rest) e in
    subst (λ (p : Bool × List ℕ). 47 ∷ c ∷ cs ≡ tag_end p.0 ++ p.1) (is_it (true, cs) (b, rest) g.1) (ap (λ (k : ℕ). 47 ∷ k ∷ cs) (eqb-true c 62 g.0))

end_takes : (cs : List ℕ) (b : Bool) (rest : List ℕ) → tag_end_at cs ≡ Ok (b, rest) → cs ≡ tag_end b ++ rest
end_takes [] b rest e = absurd cc
end_takes (c ∷ cs) b rest e =
    elim (chosen (eqb c 62) (done (false, cs)) (cond (eqb c 47) (slash_at cs) (Err Malformed)) (Ok (b, rest)) e) [
      | inl h ↦ subst (λ (p : Bool × List ℕ). c ∷ cs ≡ tag_end p.0 ++ p.1) (is_it (false, cs) (b, rest) h.1) (ap (λ (k : ℕ). k ∷ cs) (eqb-true c 62 h.0))
      | inr h ↦
          let g = if_ok (eqb c 47) (slash_at cs) Malformed (b, rest) h.1 in
          ap (λ (k : ℕ). k ∷ cs) (eqb-true c 47 g.0) ∙ slash_takes cs b rest g.1
    ]

pub tag_takes : (cs : List ℕ) (t : Tag) (rest : List ℕ) → tag_at cs ≡ Ok (t, rest) → (text : List ℕ) × SpellsTag text t × (cs ≡ text ++ rest)
unfolding tag_at
tag_takes cs t rest e =
    let a = bind_ok (spelled_at cs) (λ name. attributes_at (length name.1) [] name.1 >>= λ attributes. tag_end_at attributes.1 >>= λ end. Ok (record { name = name.0; attributes = attributes.0; is_empty = end.0 }, end.1)) (t, rest) e in
    let b = bind_ok (attributes_at (length a.0.1) [] a.0.1) (λ attributes. tag_end_at attributes.1 >>= λ end. Ok (record { name = a.0.0; attributes = attributes.0; is_empty = end.0 }, end.1)) (t, rest) a.2 in
    let c = bind_ok (tag_end_at b.0.1) (λ end. Ok (record { name = a.0.0; attributes = b.0.0; is_empty = end.0 }, end.1)) (t, rest) b.2 in
    let n = spelled_takes cs a.0.0 a.0.1 a.1 in
    let k = attributes_takes (length a.0.1) [] a.0.1 b.0.0 b.0.1 b.1 in
    let end = end_takes b.0.1 c.0.0 c.0.1 c.1 in
    let made_tag : Tag = record { name = a.0.0; attributes = b.0.0; is_empty = c.0.0 } in
    let text : List ℕ = spell a.0.0 ++ k.1 ++ k.2 ++ tag_end c.0.0 in
    let whole : cs ≡ text ++ c.0.1 = n.1 ∙ ap (λ (x : List ℕ). spell a.0.0 ++ x) (k.6 ∙ ap (λ (x : List ℕ). k.1 ++ (k.2 ++ x)) end) ∙ simp append_assoc in
    let spelled : SpellsTag text made_tag = record { raws = k.1; gap = k.2; name = n.0; attributes = subst (λ (rs : List Raw). SpellsRaws rs k.1) (sym k.3) k.4; blank = k.5; whole = refl } in
    subst (λ (p : Tag × List ℕ). (text : List ℕ) × SpellsTag text p.0 × (cs ≡ text ++ p.1)) (is_it (made_tag, c.0.1) (t, rest) c.2) (text, spelled, whole)

abbrev head_is : List Bound → Tag → List ℕ → List Bound → Result (Head × List ℕ) DocFault
head_is scope t rest own = do
  named_once ← unless (has_twins same_pair (expanded_names (attributes_in (scope ++ own) t.attributes))) Malformed
  known ← unless (has_unknown (scope ++ own) t.attributes) Prefix
  name ← element_name (scope ++ own) t.name
  Ok (record { spelling = t.name; name = name; attributes = attributes_in (scope ++ own) t.attributes; is_empty = t.is_empty; scope = scope ++ own }, rest)

pub head_takes : (scope : List Bound) (cs : List ℕ) (h : Head) (rest : List ℕ) → head_at scope cs ≡ Ok (h, rest) → (text : List ℕ) × SpellsHead scope text h × (cs ≡ text ++ rest)
unfolding head_at
head_takes scope cs h rest e =
    let a = bind_ok (tag_at cs) (λ tag. unless (has_twins same_pair (spellings tag.0.attributes)) Malformed >>= λ once. declared_at tag.0.attributes >>= λ own. head_is scope tag.0 tag.1 own) (h, rest) e in
    let t = a.0.0 in
    let u = bind_ok (unless (has_twins same_pair (spellings t.attributes)) Malformed) (λ once. declared_at t.attributes >>= λ own. head_is scope t a.0.1 own) (h, rest) a.2 in
    let b = bind_ok (declared_at t.attributes) (λ own. head_is scope t a.0.1 own) (h, rest) u.2 in
    let inner = scope ++ b.0 in
    let all = attributes_in inner t.attributes in
    let v = bind_ok (unless (has_twins same_pair (expanded_names all)) Malformed) (λ named_once. unless (has_unknown inner t.attributes) Prefix >>= λ known. element_name inner t.name >>= λ name. Ok (record { spelling = t.name; name = name; attributes = all; is_empty = t.is_empty; scope = inner }, a.0.1)) (h, rest) b.2 in
    let w = bind_ok (unless (has_unknown inner t.attributes) Prefix) (λ known. element_name inner t.name >>= λ name. Ok (record { spelling = t.name; name = name; attributes = all; is_empty = t.is_empty; scope = inner }, a.0.1)) (h, rest) v.2 in
    let c = bind_ok (element_name inner t.name) (λ name. Ok (record { spelling = t.name; name = name; attributes = all; is_empty = t.is_empty; scope = inner }, a.0.1)) (h, rest) w.2 in
    let k = tag_takes cs t a.0.1 a.1 in
    let one : Head = record { spelling = t.name; name = c.0; attributes = all; is_empty = t.is_empty; scope = inner } in
    let spelled : SpellsHead scope k.0 one = record {
      raws = t.attributes;
      own = b.0;
      tag = k.1;
      spelled_once = unless_ok (has_twins same_pair (spellings t.attributes)) Malformed u.0 u.1;
      declared = b.1;
      inner = refl;
      attributes = refl;
      named_once = unless_ok (has_twins same_pair (expanded_names all)) Malformed v.0 v.1;
      known = unless_ok (has_unknown inner t.attributes) Prefix w.0 w.1;
      name = c.1;
    } in
    subst (λ (p : Head × List ℕ). (text : List ℕ) × SpellsHead scope text p.0 × (cs ≡ text ++ p.1)) (is_it (one, a.0.1) (h, rest) c.2) (k.0, spelled, k.2)

-- ---- comments and sections

comment_is : (cs rest : List ℕ) → comment_at cs ≡ Ok rest → (text : List ℕ) × (contains word.Dashes text ≡ false) × (cs ≡ text ++ 45 ∷ 45 ∷ 62 ∷ rest)
unfolding comment_at
comment_is cs rest e =
    let a = bind_ok (split_word word.CommentEnd cs) (λ comment. unless (contains word.Dashes comment.0) Malformed >>= λ single. Ok comment.1) rest e in
    let b = bind_ok (unless (contains word.Dashes a.0.0) Malformed) (λ single. Ok a.0.1) rest a.2 in
    let k = split_takes_word word.CommentEnd [] cs a.0.0 a.0.1 a.1 in
    let same : a.0.1 ≡ rest = is_it a.0.1 rest b.2 in
    (a.0.0, unless_ok (contains word.Dashes a.0.0) Malformed b.0 b.1, k.3 ∙ ap (λ (x : List ℕ). x ++ 45 ∷ 45 ∷ 62 ∷ a.0.1) (sym k.1) ∙ ap (λ (x : List ℕ). a.0.0 ++ 45 ∷ 45 ∷ 62 ∷ x) same)

pub remark_takes : (cs rest : List ℕ) → remark_at cs ≡ Ok rest → (text : List ℕ) × (contains word.Dashes text ≡ false) × (cs ≡ 45 ∷ 45 ∷ (text ++ 45 ∷ 45 ∷ 62 ∷ rest))
unfolding remark_at
remark_takes cs rest e =
    elim (chosen (begins word.Dashes cs) (word_at word.Dashes cs >>= λ after. comment_at after) (cond (begins word.Doctype cs) (Err Doctype) (Err Malformed)) (Ok rest) e) [
      | inl h ↦
          let a = bind_ok (word_at word.Dashes cs) (λ after. comment_at after) rest h.1 in
          let k = comment_is a.0 rest a.2 in
          (k.0, k.1, word_takes (letters word.Dashes) cs a.0 a.1 ∙ ap (λ (x : List ℕ). 45 ∷ 45 ∷ x) k.2)
      | inr h ↦ absurd (neither (begins word.Doctype cs) h.1)
    ]
  where
    neither : (b : Bool) → cond b (Err Doctype) (Err Malformed) ≡ done rest → ⊥
    neither true e = absurd cc
    neither false e = absurd cc
