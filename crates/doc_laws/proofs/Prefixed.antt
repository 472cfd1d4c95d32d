-- Names as they are written, in the scope of the declarations of a canonical text.
use Rattle.std.proofs.Common.{◌≡◌, ℕ, Bool, true, false, ◌||◌, cond, List, [], ◌∷◌, ◌++◌, length, map, Option, Some, None, Ok, refl, sym, ap, ap₂, subst, ◌∙◌}
use Rattle.std.specs.Prelude.{encode_utf8_all, codes, ◌==◌}
use Rattle.std.specs.List.{list_any}
use Rattle.std.specs.Str.{bytes_eq}
use Rattle.std.proofs.lemmas.Bool.{eqb-true}
use Rattle.std.proofs.lemmas.List.{append-nil, nil_from_length}
use Rattle.std.proofs.lemmas.Str.{encodes-append}
use Rattle.wfs_ends.specs.Ends.{joined}
use Rattle.doc_tree.specs.Tree.{prefix_of, prefixed, with_prefix}
use Rattle.doc_tree.specs.declared.tree.QName.{QName}
use Rattle.doc_tree.specs.declared.tree.Prefixes.{Prefixes}
use Rattle.doc_read.specs.declared.scope.Bound.{Bound}
use Rattle.doc_read.specs.Lex.{Spelling}
use Rattle.doc_read.specs.Scope.{has_twins, is_none, written, xml_scope, newer, newest, space_of, is_declaration, element_name, attribute_space}
use Rattle.doc_read.specs.Grammar.{IsName, IsPrefix, IsSpelling, spell, spelling}
use Rattle.doc_read.proofs.Fronts.{false_unless}
use Rattle.doc_read.proofs.Again.{same_bytes}
use Rattle.doc_laws.specs.RoundTrip.{ArePairs, ArePrefixes, is_covered}
use Rattle.doc_laws.proofs.Encoding.{safe, IsSafe, all_join, name_same, name_safe}
use Rattle.doc_laws.proofs.Facts.{bytes_same, not_zero}

abbrev pub Pairs : Type 0
Pairs = List (List ℕ × List ℕ)

abbrev pub bound_of : List ℕ × List ℕ → Bound
bound_of pair = record { prefix = pair.0; space = pair.1 }

abbrev pub scope_of : Pairs → List Bound
scope_of ps = xml_scope ++ map bound_of ps

abbrev pub chosen_prefix : Option (List ℕ) → List ℕ
chosen_prefix None = []
chosen_prefix (Some p) = p

abbrev pub spelling_by : Option (List ℕ) → QName → Spelling
spelling_by o n = record { prefix = chosen_prefix o; local = n.local }

abbrev pub spelling_of : Pairs → QName → Spelling
spelling_of ps n = spelling_by (prefix_of ps n.space) n

-- ---- what a prefix stands for

pub neither : (a b : Bool) → (a || b) ≡ false → (a ≡ false) × (b ≡ false)
neither true b h = absurd cc
neither false b h = (refl, h)

pub clash : (b : Bool) → b ≡ true → b ≡ false → ⊥
clash true e f = absurd cc
clash false e f = absurd cc

pub record IsFound (p : List ℕ) : Type 0 where
  pub name : IsName p
  pub no_xmlns : bytes_eq p (codes "xmlns") ≡ false

found : (ps : Pairs) (space p : List ℕ) → ArePairs ps → prefix_of ps space ≡ Some p → IsFound p
found [] space p are e = absurd cc
found (pair ∷ ps) space p are e = go (bytes_eq pair.1 space) e (λ e. found ps space p are.1 e)
  where
    go : (b : Bool) → cond b (Some pair.0) (prefix_of ps space) ≡ Some p → (prefix_of ps space ≡ Some p → IsFound p) → IsFound p
    go true e again =
        let same : pair.0 ≡ p = cc in
        subst IsFound same (record { name = are.0.name; no_xmlns = are.0.no_xmlns })
    go false e again = again e

absent : (p : List ℕ) (f : Option (List ℕ)) (ps : Pairs) → list_any (bytes_eq p) (map (λ pair. pair.0) ps) ≡ false → newest p f (map bound_of ps) ≡ f
unfolding newest
absent p f [] h = refl
absent p f (pair ∷ ps) h =
    let k = neither (bytes_eq p pair.0) (list_any (bytes_eq p) (map (λ pair. pair.0) ps)) h in
    let other : bytes_eq pair.0 p ≡ false = false_unless (bytes_eq pair.0 p) (λ e. clash (bytes_eq p pair.0) (subst (λ (q : List ℕ). bytes_eq p q ≡ true) (sym (bytes_same pair.0 p e)) (same_bytes p)) k.0) in
    ap (λ (b : Bool). newest p (cond b (Some pair.1) f) (map bound_of ps)) other ∙ absent p f ps k.1

newest_is : (ps : Pairs) (space p : List ℕ) (f : Option (List ℕ)) → has_twins bytes_eq (map (λ pair. pair.0) ps) ≡ false → prefix_of ps space ≡ Some p → newest p f (map bound_of ps) ≡ Some space
unfolding newest has_twins
newest_is [] space p f h e = absurd cc
newest_is (pair ∷ ps) space p f h e = go (bytes_eq pair.1 space) refl e (λ e. newest_is ps space p (newer p f (bound_of pair)) k.1 e)
  where
    k : (list_any (bytes_eq pair.0) (map (λ pair. pair.0) ps) ≡ false) × (has_twins bytes_eq (map (λ pair. pair.0) ps) ≡ false)
    k = neither (list_any (bytes_eq pair.0) (map (λ pair. pair.0) ps)) (has_twins bytes_eq (map (λ pair. pair.0) ps)) h

    here : newest pair.0 (cond (bytes_eq pair.0 pair.0) (Some pair.1) f) (map bound_of ps) ≡ Some pair.1
    here = ap (λ (b : Bool). newest pair.0 (cond b (Some pair.1) f) (map bound_of ps)) (same_bytes pair.0) ∙ absent pair.0 (Some pair.1) ps k.0

    go : (b : Bool) → bytes_eq pair.1 space ≡ b → cond b (Some pair.0) (prefix_of ps space) ≡ Some p → (prefix_of ps space ≡ Some p → newest p (newer p f (bound_of pair)) (map bound_of ps) ≡ Some space) → newest p (newer p f (bound_of pair)) (map bound_of ps) ≡ Some space
    go true same e again =
        let is : pair.0 ≡ p = cc in
        subst (λ (q : List ℕ). newest q (cond (bytes_eq pair.0 q) (Some pair.1) f) (map bound_of ps) ≡ Some space) is (here ∙ ap Some (bytes_same pair.1 space same))
    go false same e again = again e

name_some : (n : List ℕ) → IsName n → bytes_eq n [] ≡ false
name_some [] is = absurd (cc is.first)
name_some (c ∷ cs) is = refl

unprefixed : (f : Option (List ℕ)) (ps : Pairs) → ArePairs ps → newest [] f (map bound_of ps) ≡ f
unfolding newest
unprefixed f [] are = refl
unprefixed f (pair ∷ ps) are = ap (λ (b : Bool). newest [] (cond b (Some pair.1) f) (map bound_of ps)) (name_some pair.0 are.0.name) ∙ unprefixed f ps are.1

in_scope : (ps : Pairs) (space p : List ℕ) → has_twins bytes_eq (map (λ pair. pair.0) ps) ≡ false → prefix_of ps space ≡ Some p → newest p None (scope_of ps) ≡ Some space
unfolding newest
in_scope ps space p h e = newest_is ps space p _ h e

no_default : (ps : Pairs) → ArePairs ps → newest [] None (scope_of ps) ≡ None
unfolding newest
no_default ps are = unprefixed None ps are

-- ---- names

pub record KnownBy (ps : Pairs) (o : Option (List ℕ)) (n : QName) : Type 0 where
  pub is : IsSpelling (spelling_by o n)
  pub element : element_name (scope_of ps) (spelling_by o n) ≡ Ok n
  pub attribute : attribute_space (scope_of ps) (spelling_by o n) ≡ Some n.space
  pub text : with_prefix o n.local ≡ spell (spelling_by o n)
  pub undeclared : (length n.space ≡ 0 → bytes_eq n.local (codes "xmlns") ≡ false) → is_declaration (spelling_by o n) ≡ false

abbrev pub Known : Pairs → QName → Type 0
Known ps n = KnownBy ps (prefix_of ps n.space) n

prefixed_is : (p local : List ℕ) → IsName p → prefixed p local ≡ spelling p local
unfolding prefixed joined
prefixed_is [] local is = absurd (cc is.first)
prefixed_is (c ∷ cs) local is = ap (λ (x : List ℕ). (c ∷ cs) ++ 58 ∷ x) (append-nil local)

is_prefix : (p : List ℕ) → IsName p → IsPrefix p
is_prefix [] is = tt
is_prefix (c ∷ cs) is = is

name_long : (p : List ℕ) → IsName p → (length p == 0) ≡ false
name_long [] is = absurd (cc is.first)
name_long (c ∷ cs) is = not_zero (length cs)

covered_none : (n : QName) → cond (length n.space == 0) true (cond true false true) ≡ true → length n.space ≡ 0
covered_none n h = go (length n.space == 0) refl h
  where
    go : (b : Bool) → (length n.space == 0) ≡ b → cond b true false ≡ true → length n.space ≡ 0
    go true is h = eqb-true _ _ is
    go false is h = absurd cc

pub known : (names : Prefixes) (n : QName) → ArePrefixes names → is_covered names n ≡ true → IsName n.local → Known names.pairs n
unfolding element_name
known names n are covered local = go (prefix_of names.pairs n.space) refl covered
  where
    by_none : length n.space ≡ 0 → KnownBy names.pairs None n
    by_none zero =
        let nothing : n.space ≡ [] = nil_from_length n.space zero in
        let looked : space_of (scope_of names.pairs) [] ≡ None = no_default names.pairs are.pairs in
        record {
          is = record { prefix = tt; local = local };
          element = rw (looked, name_same n.local local, ← nothing) refl;
          attribute = ap Some (sym nothing);
          text = refl;
          undeclared = λ h. h zero;
        }

    by_some : (p : List ℕ) → prefix_of names.pairs n.space ≡ Some p → IsFound p → KnownBy names.pairs (Some p) n
    by_some p e is =
        let looked : space_of (scope_of names.pairs) p ≡ Some n.space = ap (λ (q : List ℕ). newest q None (scope_of names.pairs)) (name_same p is.name) ∙ in_scope names.pairs n.space p are.different e in
        record {
          is = record { prefix = is_prefix p is.name; local = local };
          element = rw (looked, name_same n.local local) refl;
          attribute = rw (name_long p is.name) looked;
          text = prefixed_is p n.local is.name;
          undeclared = λ h. rw (is.no_xmlns, name_long p is.name) refl;
        }

    go : (o : Option (List ℕ)) → prefix_of names.pairs n.space ≡ o → cond (length n.space == 0) true (cond (is_none o) false true) ≡ true → KnownBy names.pairs o n
    go None e covered = by_none (covered_none n covered)
    go (Some p) e covered = by_some p e (found names.pairs n.space p are.pairs e)

-- ---- spellings

pub spell_same : (s : Spelling) → IsSpelling s → encode_utf8_all (spell s) ≡ spell s
unfolding lib.Utf8.encode
spell_same s is = go s.prefix s.local is.prefix is.local
  where
    go : (prefix local : List ℕ) → IsPrefix prefix → IsName local → encode_utf8_all (spelling prefix local) ≡ spelling prefix local
    go [] local none is = name_same local is
    go (c ∷ cs) local prefix is = encodes-append (c ∷ cs) (58 ∷ local) ∙ ap (λ (x : List ℕ). x ++ 58 ∷ encode_utf8_all local) (name_same (c ∷ cs) prefix) ∙ ap (λ (x : List ℕ). (c ∷ cs) ++ 58 ∷ x) (name_same local is)

pub spell_safe : (s : Spelling) → IsSpelling s → IsSafe (spell s)
spell_safe s is = go s.prefix s.local is.prefix is.local
  where
    go : (prefix local : List ℕ) → IsPrefix prefix → IsName local → IsSafe (spelling prefix local)
    go [] local none is = name_safe local is
    go (c ∷ cs) local prefix is = all_join safe (c ∷ cs) (58 ∷ local) (name_safe (c ∷ cs) prefix) (name_safe local is)

prefix_same : (p : List ℕ) → IsPrefix p → encode_utf8_all p ≡ p
unfolding lib.Utf8.encode
prefix_same [] is = refl
prefix_same (c ∷ cs) is = name_same (c ∷ cs) is

-- two names that are written alike are spelled alike
pub written_apart : (s t : Spelling) → IsSpelling s → IsSpelling t → written s ≡ written t → s ≡ t
written_apart s t a b e =
    let prefix : s.prefix ≡ t.prefix = sym (prefix_same s.prefix a.prefix) ∙ ap (λ (x : List ℕ × List ℕ). x.0) e ∙ prefix_same t.prefix b.prefix in
    let local : s.local ≡ t.local = sym (name_same s.local a.local) ∙ ap (λ (x : List ℕ × List ℕ). x.1) e ∙ name_same t.local b.local in
    ap₂ spelled_as prefix local
  where
    spelled_as : List ℕ → List ℕ → Spelling
    spelled_as p l = record { prefix = p; local = l }
