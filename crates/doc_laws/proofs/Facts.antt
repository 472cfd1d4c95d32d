-- What is known of the names and texts of a tree that some text spells.
use Rattle.std.proofs.Common.{◌≡◌, ℕ, suc, ◌<◌, Bool, true, false, not, ◌&&◌, ◌||◌, cond, eqb, List, [], ◌∷◌, ◌++◌, length, map, Option, Some, None, Result, Ok, Err, refl, sym, ap, subst, ◌∙◌, append_assoc, arith}
use Rattle.std.specs.Prelude.{encode_utf8, encode_utf8_all, codes, ◌==◌}
use Rattle.std.specs.List.{list_all}
use Rattle.std.specs.Str.{bytes_eq}
use Rattle.std.proofs.lemmas.Bool.{eqb-true}
use Rattle.std.proofs.lemmas.List.{append-nil, nil_from_length}
use Rattle.std.proofs.lemmas.List.Folds.{list_all-append}
use Rattle.std.proofs.lemmas.Slice.Eq.{bytes_eq-Decides}
use Rattle.std.proofs.lemmas.Str.{encodes-append}
use Rattle.wfs_ends.specs.Read.{each}
use Rattle.wfs_ends.proofs.Turns.{bind_ok}
use Rattle.doc_tree.specs.declared.tree.QName.{QName}
use Rattle.doc_tree.specs.declared.tree.Attribute.{Attribute}
use Rattle.doc_read.specs.declared.fault.DocFault.{DocFault}
use Rattle.doc_read.specs.declared.fault.DocFault.TheVariants.{Malformed}
use Rattle.doc_read.specs.declared.scope.Bound.{Bound}
use Rattle.doc_tree.specs.Characters.{is_allowed}
use Rattle.doc_read.specs.Lex.{Spelling, Raw, plain, named_reference}
use Rattle.doc_read.specs.Scope.{has_twins, same_pair, expanded_names, newer, newest, space_of, is_default, is_declaration, is_xml, declaration_of, unbinds, declared_step, named, or_none, element_name, attribute_space, as_attribute, attribute_of, attributes_in}
use Rattle.doc_read.specs.Element.{Head}
use Rattle.doc_read.specs.Document.{line_piece, line_feeds, unmarked}
use Rattle.doc_read.specs.Grammar.{IsName, IsPrefix, IsSpelling, spell, Reference, decimal, hexadecimal, print_reference, IsReference, Written, ended, refers, print_written, written_text, IsWritten, SpellsRaw, SpellsRaws, SpellsHead, tag_end, Piece, comment, section, reference, print_piece, piece_text, IsPiece, Content, last, piece, child, print, print_content, content_text, IsContent}
use Rattle.doc_read.specs.Grammar.{named as by_name}
use Rattle.doc_read.proofs.Fronts.{both, false_unless}
use Rattle.doc_read.proofs.Takes.{is_it}
use Rattle.doc_laws.proofs.Encoding.{all_both, all_join, name_same}

pub bytes_same : (xs ys : List ℕ) → bytes_eq xs ys ≡ true → xs ≡ ys
bytes_same xs ys h = grind (arith, bytes_eq-Decides)

pub not_zero : (n : ℕ) → eqb (suc n) 0 ≡ false
not_zero n = false_unless (eqb (suc n) 0) (λ e. absurd (omega (arith, eqb-true _ _ e)))

abbrev pub AreAllowed : List ℕ → Type 0
AreAllowed cs = list_all is_allowed cs ≡ true

-- ---- texts

-- the bytes of allowed characters
pub record Meant (bytes : List ℕ) : Type 0 where
  pub characters : List ℕ
  pub allowed : list_all is_allowed characters ≡ true
  pub is : bytes ≡ encode_utf8_all characters

pub meant_then : (a b : List ℕ) → Meant a → Meant b → Meant (a ++ b)
meant_then a b x y = record {
  characters = x.characters ++ y.characters;
  allowed = all_join is_allowed x.characters y.characters x.allowed y.allowed;
  is = rw (x.is, y.is) (sym (encodes-append x.characters y.characters));
}

meant_run : (run : List ℕ) → AreAllowed run → Meant (encode_utf8_all run)
meant_run run allowed = record { characters = run; allowed = allowed; is = refl }

pub meant_one : (c : ℕ) → is_allowed c ≡ true → Meant (encode_utf8 c)
meant_one c allowed = record { characters = c ∷ []; allowed = rw allowed refl; is = sym (append-nil (encode_utf8 c)) }

named_allowed : (name : List ℕ) (c : ℕ) → named_reference name ≡ Ok c → is_allowed c ≡ true
unfolding named_reference
named_allowed name c e = go (bytes_eq name (codes "lt")) (bytes_eq name (codes "gt")) (bytes_eq name (codes "amp")) (bytes_eq name (codes "quot")) (bytes_eq name (codes "apos")) e
  where
    is_one : (n : ℕ) → is_allowed n ≡ true → (let r : Result ℕ DocFault = Ok n in r) ≡ Ok c → is_allowed c ≡ true
    is_one n allowed e = subst (λ (k : ℕ). is_allowed k ≡ true) (is_it n c e) allowed

    go : (p q r s t : Bool) → cond p (Ok 60) (cond q (Ok 62) (cond r (Ok 38) (cond s (Ok 34) (cond t (Ok 39) (Err Malformed))))) ≡ Ok c → is_allowed c ≡ true
    go true q r s t e = is_one 60 refl e
    go false true r s t e = is_one 62 refl e
    go false false true s t e = is_one 38 refl e
    go false false false true t e = is_one 34 refl e
    go false false false false true e = is_one 39 refl e
    go false false false false false e = absurd cc

reference_allowed : (r : Reference) (c : ℕ) → IsReference r c → is_allowed c ≡ true
reference_allowed (by_name name) c is = named_allowed name c is.1
reference_allowed (decimal digits) c is = is.allowed
reference_allowed (hexadecimal digits) c is = is.allowed

plain_allowed : (c : ℕ) → is_allowed c ≡ true → is_allowed (plain c) ≡ true
plain_allowed c allowed = go ((eqb c 32 || eqb c 9) || eqb c 10)
  where
    go : (b : Bool) → is_allowed (cond b 32 c) ≡ true
    go true = refl
    go false = allowed

plains_allowed : (run : List ℕ) → AreAllowed run → AreAllowed (map plain run)
plains_allowed [] allowed = refl
plains_allowed (c ∷ run) allowed =
    let k = both (is_allowed c) (list_all is_allowed run) allowed in
    rw (plain_allowed c k.0) (plains_allowed run k.1)

written_meant : (q : ℕ) (w : Written) → IsWritten q w → AreAllowed (print_written w) → Meant (written_text w)
written_meant q (ended run) is allowed = meant_run (map plain run) (plains_allowed run allowed)
written_meant q (refers run r c w) is allowed =
    let a = all_both is_allowed run (38 ∷ (print_reference r ++ 59 ∷ print_written w)) allowed in
    let b = all_both is_allowed (print_reference r) (59 ∷ print_written w) a.1 in
    meant_then _ _ (meant_run (map plain run) (plains_allowed run a.0)) (meant_then _ _ (meant_one c (reference_allowed r c is.1)) (written_meant q w is.2 b.1))

piece_meant : (p : Piece) → IsPiece p → AreAllowed (print_piece p) → Meant (piece_text p)
piece_meant (comment text) is allowed = meant_run [] refl
piece_meant (section text) is allowed = meant_run text (all_both is_allowed text (93 ∷ 93 ∷ 62 ∷ []) allowed).0
piece_meant (reference r c) is allowed = meant_one c (reference_allowed r c is)

pub content_meant : (c : Content) (d : ℕ) (scope : List Bound) → IsContent c d scope → AreAllowed (print_content c) → Meant (content_text c)
content_meant (last run) d scope is allowed = meant_run run allowed
content_meant (piece run p c) d scope is allowed =
    let a = all_both is_allowed run (print_piece p ++ print_content c) allowed in
    let b = all_both is_allowed (print_piece p) (print_content c) a.1 in
    meant_then _ _ (meant_run run a.0) (meant_then _ _ (piece_meant p is.1 b.0) (content_meant c d scope is.2 b.1))
content_meant (child run m c) d scope is allowed =
    let a = all_both is_allowed run (60 ∷ (print m ++ print_content c)) allowed in
    let b = all_both is_allowed (print m) (print_content c) a.1 in
    meant_then _ _ (meant_run run a.0) (content_meant c d scope is.2 b.1)

-- ---- spaces

-- a prefix stands for some space; the default space may be none
abbrev pub stands : Bound → Bool
stands b = cond (length b.prefix == 0) true (not (length b.space == 0))

abbrev pub AllStand : List Bound → Type 0
AllStand bs = list_all stands bs ≡ true

never_nothing : (p : List ℕ) (b : Bound) → 0 < length p → stands b ≡ true → bytes_eq b.prefix p ≡ true → b.space ≡ [] → ⊥
never_nothing p b some is same none =
    let e : b.prefix ≡ p = bytes_same b.prefix p same in
    go (length b.prefix == 0) refl is
  where
    go : (x : Bool) → (length b.prefix == 0) ≡ x → cond x true (not (length b.space == 0)) ≡ true → ⊥
    go true zero h = absurd (omega (arith, eqb-true _ _ zero, ap length (bytes_same b.prefix p same)))
    go false zero h = absurd (cc (sym h ∙ ap (λ (s : List ℕ). not (length s == 0)) none))

stands_for : (p : List ℕ) (found : Option (List ℕ)) (bs : List Bound) → 0 < length p → AllStand bs → (found ≡ Some [] → ⊥) → newest p found bs ≡ Some [] → ⊥
unfolding newest
stands_for p found [] some all other e = other e
stands_for p found (b ∷ bs) some all other e =
    let k = both (stands b) (list_all stands bs) all in
    stands_for p (newer p found b) bs some k.1 (newer_other k.0) e
  where
    newer_other : stands b ≡ true → newer p found b ≡ Some [] → ⊥
    newer_other is e = go (bytes_eq b.prefix p) refl e
      where
        go : (x : Bool) → bytes_eq b.prefix p ≡ x → cond x (Some b.space) found ≡ Some [] → ⊥
        go true same e =
            let nothing : b.space ≡ [] = cc in
            never_nothing p b some is same nothing
        go false same e = other e

declared_stands : (r : Raw) → unbinds r ≡ false → stands (declaration_of r) ≡ true
declared_stands r bound = go (is_default r.name) (length r.value == 0) bound
  where
    go : (x y : Bool) → (not x && y) ≡ false → cond (length (cond x [] (encode_utf8_all r.name.local)) == 0) true (not y) ≡ true
    go true y h = refl
    go false true h = absurd cc
    go false false h = same (length (encode_utf8_all r.name.local) == 0)
      where
        same : (b : Bool) → cond b true true ≡ true
        same true = refl
        same false = refl

step_stands : (found : List Bound) (r : Raw) (more : List Bound) → AllStand found → declared_step found r ≡ Ok more → AllStand more
unfolding declared_step
step_stands found r more all e = go (is_declaration r.name) (unbinds r) (is_xml r.name) refl e
  where
    same : (x : List Bound) → AllStand x → (let a : Result (List Bound) DocFault = Ok x in a) ≡ Ok more → AllStand more
    same x h e = subst (λ (y : List Bound). AllStand y) (is_it x more e) h

    go : (a b c : Bool) → unbinds r ≡ b → cond a (cond b (Err Malformed) (cond c (Ok found) (Ok (found ++ declaration_of r ∷ [])))) (Ok found) ≡ Ok more → AllStand more
    go true true c is e = absurd cc
    go true false true is e = same found all e
    go true false false is e = same (found ++ declaration_of r ∷ []) (list_all-append stands found (declaration_of r ∷ []) ∙ rw (all, declared_stands r is) refl) e
    go false b c is e = same found all e

each_stands : (rs : List Raw) (found own : List Bound) → AllStand found → each declared_step found rs ≡ Ok own → AllStand own
unfolding each
each_stands [] found own all e = subst (λ (y : List Bound). AllStand y) (is_it found own e) all
each_stands (r ∷ rs) found own all e =
    let b = bind_ok (declared_step found r) (λ more. each declared_step more rs) own e in
    each_stands rs b.0 own (step_stands found r b.0 all b.1) b.2

-- ---- attributes

pub record IsGood (a : Attribute) : Type 0 where
  pub local : IsName a.name.local
  pub no_xmlns : length a.name.space ≡ 0 → bytes_eq a.name.local (codes "xmlns") ≡ false
  pub value : Meant a.value

abbrev pub AreGood : List Attribute → Type 0
AreGood [] = Unit {0}
AreGood (a ∷ attributes) = IsGood a × AreGood attributes

good_then : (xs ys : List Attribute) → AreGood xs → AreGood ys → AreGood (xs ++ ys)
good_then [] ys a b = b
good_then (x ∷ xs) ys a b = (a.0, good_then xs ys a.1 b)

no_declaration : (scope : List Bound) (s : Spelling) (space : List ℕ) → AllStand scope → IsSpelling s → is_declaration s ≡ false → attribute_space scope s ≡ Some space → length space ≡ 0 → bytes_eq s.local (codes "xmlns") ≡ false
no_declaration scope s space all is other found none = go s.prefix s.local is.prefix other found
  where
    nothing : space ≡ []
    nothing = nil_from_length space none

    go : (prefix local : List ℕ) → IsPrefix prefix → is_declaration (record { prefix = prefix; local = local }) ≡ false → attribute_space scope (record { prefix = prefix; local = local }) ≡ Some space → bytes_eq local (codes "xmlns") ≡ false
    go [] local none other found = other
    go (c ∷ cs) local is other found =
        let long : 0 < length (encode_utf8_all (c ∷ cs)) = omega (arith, ap length (name_same (c ∷ cs) is)) in
        let e : newest (encode_utf8_all (c ∷ cs)) None scope ≡ Some [] = sym (ap (λ (b : Bool). cond b (Some []) (newest (encode_utf8_all (c ∷ cs)) None scope)) (not_zero (length cs))) ∙ found ∙ ap Some nothing in
        absurd (stands_for (encode_utf8_all (c ∷ cs)) None scope long all (λ e. absurd cc) e)

attribute_good : (scope : List Bound) (r : Raw) → AllStand scope → IsSpelling r.name → Meant r.value → AreGood (attribute_of scope r)
unfolding attribute_of
attribute_good scope r all is value = go (is_declaration r.name) refl
  where
    found : is_declaration r.name ≡ false → (o : Option (List ℕ)) → attribute_space scope r.name ≡ o → AreGood (as_attribute o r)
    found other None e = tt
    found other (Some space) e =
        let same = name_same r.name.local is.local in (
          record {
            local = subst IsName (sym same) is.local;
            no_xmlns = λ none. subst (λ (n : List ℕ). bytes_eq n (codes "xmlns") ≡ false) (sym same) (no_declaration scope r.name space all is other e none);
            value = value;
          },
          tt,
        )

    go : (b : Bool) → is_declaration r.name ≡ b → AreGood (cond b [] (as_attribute (attribute_space scope r.name) r))
    go true e = tt
    go false e = found e (attribute_space scope r.name) refl

raw_meant : (text : List ℕ) (r : Raw) → SpellsRaw text r → AreAllowed text → Meant r.value
raw_meant text r s allowed =
    let value : List ℕ = s.quote ∷ (print_written s.written ++ s.quote ∷ []) in
    let e : text ≡ spell r.name ++ (s.before ++ 61 ∷ (s.after ++ value)) = s.whole ∙ simp append_assoc in
    let a = all_both is_allowed (spell r.name) (s.before ++ 61 ∷ (s.after ++ value)) (subst (λ (t : List ℕ). AreAllowed t) e allowed) in
    let b = all_both is_allowed s.before (61 ∷ (s.after ++ value)) a.1 in
    let c = all_both is_allowed s.after value b.1 in
    let d = both (is_allowed s.quote) (list_all is_allowed (print_written s.written ++ s.quote ∷ [])) c.1 in
    let e = all_both is_allowed (print_written s.written) (s.quote ∷ []) d.1 in
    subst Meant s.means (written_meant s.quote s.written s.value e.0)

raws_good : (scope : List Bound) (rs : List Raw) (text : List ℕ) → AllStand scope → SpellsRaws rs text → AreAllowed text → AreGood (attributes_in scope rs)
raws_good scope [] text all s allowed = tt
raws_good scope (r ∷ rs) text all s allowed =
    let e : text ≡ s.0 ++ (s.1 ++ s.2) = s.7 ∙ append_assoc s.0 s.1 s.2 in
    let a = all_both is_allowed s.0 (s.1 ++ s.2) (subst (λ (t : List ℕ). AreAllowed t) e allowed) in
    let b = all_both is_allowed s.1 s.2 a.1 in
    good_then (attribute_of scope r) (attributes_in scope rs) (attribute_good scope r all s.5.name (raw_meant s.1 r s.5 b.0)) (raws_good scope rs s.2 all s.6 b.1)

-- ---- start tags

pub record Facts (h : Head) : Type 0 where
  pub local : IsName h.name.local
  pub attributes : AreGood h.attributes
  pub named_once : has_twins same_pair (expanded_names h.attributes) ≡ false
  pub scope : AllStand h.scope

named_local : (o : Option (List ℕ)) (local : List ℕ) (n : QName) → named o local ≡ Ok n → n.local ≡ encode_utf8_all local
named_local None local n e = absurd cc
named_local (Some space) local n e = sym (ap (λ (q : QName). q.local) (is_it (record { space = space; local = encode_utf8_all local }) n e))

pub head_facts : (scope : List Bound) (text : List ℕ) (h : Head) → AllStand scope → SpellsHead scope text h → AreAllowed text → Facts h
unfolding element_name
head_facts scope text h all s allowed =
    let inner : AllStand (scope ++ s.own) = list_all-append stands scope s.own ∙ rw (all, each_stands s.raws [] s.own refl s.declared) refl in
    let e : text ≡ spell h.spelling ++ (s.tag.raws ++ (s.tag.gap ++ tag_end h.is_empty)) = s.tag.whole ∙ simp append_assoc in
    let a = all_both is_allowed (spell h.spelling) (s.tag.raws ++ (s.tag.gap ++ tag_end h.is_empty)) (subst (λ (t : List ℕ). AreAllowed t) e allowed) in
    let b = all_both is_allowed s.tag.raws (s.tag.gap ++ tag_end h.is_empty) a.1 in
    let local = named_local (or_none (space_of (scope ++ s.own) h.spelling.prefix) h.spelling.prefix) h.spelling.local h.name s.name in
    record {
      local = subst IsName (sym (local ∙ name_same h.spelling.local s.tag.name.local)) s.tag.name.local;
      attributes = subst AreGood (sym s.attributes) (raws_good (scope ++ s.own) s.raws s.tag.raws inner s.tag.attributes b.0);
      named_once = subst (λ (xs : List Attribute). has_twins same_pair (expanded_names xs) ≡ false) (sym s.attributes) s.named_once;
      scope = subst (λ (xs : List Bound). AllStand xs) (sym s.inner) inner;
    }

-- ---- whole documents

unmarked_allowed : (cs : List ℕ) → AreAllowed cs → AreAllowed (unmarked cs)
unmarked_allowed [] h = h
unmarked_allowed (c ∷ cs) h = go (eqb c 0xfeff)
  where
    go : (b : Bool) → AreAllowed (cond b cs (c ∷ cs))
    go true = (both (is_allowed c) (list_all is_allowed cs) h).1
    go false = h

piece_allowed : (was : Bool) (c : ℕ) → is_allowed c ≡ true → AreAllowed (line_piece was c)
unfolding line_piece
piece_allowed was c h = go (eqb c 13) (was && eqb c 10)
  where
    go : (a b : Bool) → AreAllowed (cond a (10 ∷ []) (cond b [] (c ∷ [])))
    go true b = refl
    go false true = refl
    go false false = rw h refl

lines_allowed : (was : Bool) (cs : List ℕ) → AreAllowed cs → AreAllowed (line_feeds was cs)
unfolding line_feeds
lines_allowed was [] h = refl
lines_allowed was (c ∷ cs) h =
    let k = both (is_allowed c) (list_all is_allowed cs) h in
    all_join is_allowed (line_piece was c) (line_feeds (eqb c 13) cs) (piece_allowed was c k.0) (lines_allowed (eqb c 13) cs k.1)

pub text_allowed : (cs : List ℕ) → AreAllowed cs → AreAllowed (line_feeds false (unmarked cs))
text_allowed cs h = lines_allowed false (unmarked cs) (unmarked_allowed cs h)
