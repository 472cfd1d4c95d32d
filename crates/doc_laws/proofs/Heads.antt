-- The start tag of a canonical text.
use Rattle.std.proofs.Common.{◌≡◌, ℕ, Bool, true, false, List, [], ◌∷◌, ◌++◌, map, Ok, inl, refl, sym, ap, subst, ◌∙◌, append_assoc, arith}
use Rattle.std.specs.Prelude.{encode_utf8_all}
use Rattle.std.specs.List.{list_all, flat_map}
use Rattle.std.specs.Str.{chars}
use Rattle.std.proofs.lemmas.List.{append-nil}
use Rattle.std.proofs.lemmas.Str.{encodes-append, encodes-chars}
use Rattle.wfs_ends.specs.Ends.{joined}
use Rattle.doc_tree.specs.Escape.{escaped}
use Rattle.doc_tree.specs.Tree.{name_text, attribute_text, attributes_text, declaration_text, root_text, tag_text}
use Rattle.doc_tree.specs.declared.tree.QName.{QName}
use Rattle.doc_tree.specs.declared.tree.Attribute.{Attribute}
use Rattle.doc_tree.specs.declared.tree.Prefixes.{Prefixes}
use Rattle.doc_read.specs.declared.scope.Bound.{Bound}
use Rattle.doc_read.specs.Lex.{Raw}
use Rattle.doc_read.specs.Scope.{has_twins, same_pair, spellings, expanded_names, xml_scope, declared_at, element_name, attributes_in, has_unknown}
use Rattle.doc_read.specs.Element.{Head}
use Rattle.doc_read.specs.Grammar.{IsName, IsSpelling, spell, print_written, SpellsRaw, SpellsRaws, SpellsTag, SpellsHead, tag_end}
use Rattle.doc_laws.specs.RoundTrip.{IsPair, ArePairs, ArePrefixes, is_covered}
use Rattle.doc_laws.proofs.Encoding.{safe, IsSafe, all_join}
use Rattle.doc_laws.proofs.Escapes.{value_written, characters_written}
use Rattle.doc_laws.proofs.Facts.{Meant, AreGood}
use Rattle.doc_laws.proofs.Prefixed.{Pairs, bound_of, scope_of, spelling_of, Known, known, spell_same, spell_safe}
use Rattle.doc_laws.proofs.Declared.{raw_of, raw_of_pair, AreKnown, all_known, attributes_back, none_unknown, declare_nothing, pairs_attributes, pairs_known, pairs_declare, attributes_apart, declaration_spelled, all_apart}

-- ---- attributes

-- an attribute behind a space, as it is written
abbrev attribute_bytes : Raw → List ℕ
attribute_bytes r = 32 ∷ (spell r.name ++ 61 ∷ 34 ∷ (escaped true r.value ++ 34 ∷ []))

pub record WroteRaw (r : Raw) : Type 0 where
  pub text : List ℕ
  pub spells : SpellsRaw text r
  pub printed_safe : IsSafe text
  pub same : attribute_bytes r ≡ encode_utf8_all (32 ∷ text)

encodes_attribute : (s p : List ℕ) → encode_utf8_all s ≡ s → encode_utf8_all (32 ∷ (s ++ 61 ∷ 34 ∷ (p ++ 34 ∷ []))) ≡ 32 ∷ (s ++ 61 ∷ 34 ∷ (encode_utf8_all p ++ 34 ∷ []))
unfolding lib.Utf8.encode
encodes_attribute s p same =
    ap (λ (x : List ℕ). 32 ∷ x) (encodes-append s (61 ∷ 34 ∷ (p ++ 34 ∷ [])) ∙ ap (λ (x : List ℕ). x ++ 61 ∷ 34 ∷ encode_utf8_all (p ++ 34 ∷ [])) same
    ∙ ap (λ (x : List ℕ). s ++ 61 ∷ 34 ∷ x) (encodes-append p (34 ∷ [])))

raw_written : (r : Raw) → IsSpelling r.name → Meant r.value → WroteRaw r
raw_written r is meant =
    let w = value_written meant.characters meant.allowed in
    let text : List ℕ = spell r.name ++ 61 ∷ 34 ∷ (print_written w.written ++ 34 ∷ []) in
    let value : escaped true r.value ≡ encode_utf8_all (print_written w.written) = ap (escaped true) meant.is ∙ characters_written true meant.characters meant.allowed ∙ w.bytes in
    record {
      text = text;
      spells = record {
        before = [];
        after = [];
        quote = 34;
        written = w.written;
        name = is;
        before_blank = refl;
        after_blank = refl;
        quotes = inl refl;
        value = w.fits;
        means = w.means ∙ sym meant.is;
        whole = simp (append_assoc, append-nil);
      };
      printed_safe = all_join safe (spell r.name) (61 ∷ 34 ∷ (print_written w.written ++ 34 ∷ [])) (spell_safe r.name is) (all_join safe (print_written w.written) (34 ∷ []) w.printed_safe refl);
      same = ap (λ (x : List ℕ). 32 ∷ (spell r.name ++ 61 ∷ 34 ∷ (x ++ 34 ∷ []))) value ∙ sym (encodes_attribute (spell r.name) (print_written w.written) (spell_same r.name is));
    }

pub record WroteRaws (rs : List Raw) (bytes : List ℕ) : Type 0 where
  pub text : List ℕ
  pub spells : SpellsRaws rs text
  pub printed_safe : IsSafe text
  pub same : bytes ≡ encode_utf8_all text

one_more : (r : Raw) (rs : List Raw) (bytes : List ℕ) → WroteRaw r → WroteRaws rs bytes → WroteRaws (r ∷ rs) (attribute_bytes r ++ bytes)
one_more r rs bytes one more = record {
  text = 32 ∷ (one.text ++ more.text);
  spells = (32 ∷ [], one.text, more.text, refl, omega arith, one.spells, more.spells, refl);
  printed_safe = all_join safe one.text more.text one.printed_safe more.printed_safe;
  same = ap (λ (x : List ℕ). x ++ bytes) one.same ∙ ap (λ (x : List ℕ). encode_utf8_all (32 ∷ one.text) ++ x) more.same ∙ sym (encodes-append (32 ∷ one.text) more.text);
}

attribute_is : (names : Prefixes) (a : Attribute) → Known names.pairs a.name → attribute_text names a ≡ attribute_bytes (raw_of names.pairs a)
unfolding attribute_text name_text joined
attribute_is names a k = ap (λ (x : List ℕ). 32 ∷ (x ++ 61 ∷ 34 ∷ (escaped true a.value ++ 34 ∷ []))) k.text

attributes_written : (names : Prefixes) (xs : List Attribute) → AreGood xs → AreKnown names.pairs xs → WroteRaws (map (raw_of names.pairs) xs) (attributes_text names xs)
attributes_written names [] good known = record { text = []; spells = refl; printed_safe = refl; same = refl }
attributes_written names (a ∷ xs) good known =
    subst (λ (b : List ℕ). WroteRaws (map (raw_of names.pairs) (a ∷ xs)) (b ++ attributes_text names xs)) (sym (attribute_is names a known.0))
    (one_more (raw_of names.pairs a) (map (raw_of names.pairs) xs) (attributes_text names xs) (raw_written (raw_of names.pairs a) known.0.is good.0.value) (attributes_written names xs good.1 known.1))

declaration_is : (pair : List ℕ × List ℕ) → declaration_text pair ≡ attribute_bytes (raw_of_pair pair)
unfolding declaration_text joined
declaration_is pair = refl

pair_meant : (pair : List ℕ × List ℕ) → IsPair pair → Meant pair.1
pair_meant pair is = record { characters = chars pair.1; allowed = is.allowed; is = sym (encodes-chars pair.1 is.text) }

pairs_written : (ps : Pairs) (rs : List Raw) (bytes : List ℕ) → ArePairs ps → WroteRaws rs bytes → WroteRaws (map raw_of_pair ps ++ rs) (flat_map declaration_text ps ++ bytes)
pairs_written [] rs bytes are more = more
pairs_written (pair ∷ ps) rs bytes are more =
    let later = one_more (raw_of_pair pair) (map raw_of_pair ps ++ rs) (flat_map declaration_text ps ++ bytes) (raw_written (raw_of_pair pair) (declaration_spelled pair are.0) (pair_meant pair are.0)) (pairs_written ps rs bytes are.1 more) in
    let same : attribute_bytes (raw_of_pair pair) ++ (flat_map declaration_text ps ++ bytes) ≡ flat_map declaration_text (pair ∷ ps) ++ bytes =
    ap (λ (x : List ℕ). x ++ (flat_map declaration_text ps ++ bytes)) (sym (declaration_is pair)) ∙ sym (append_assoc (declaration_text pair) (flat_map declaration_text ps) bytes) in
    subst (λ (b : List ℕ). WroteRaws (map raw_of_pair (pair ∷ ps) ++ rs) b) same later

-- ---- the tag

abbrev pub outer : Bool → Pairs → List Bound
outer true ps = xml_scope
outer false ps = scope_of ps

abbrev pub head_of : Pairs → QName → List Attribute → Bool → Head
head_of ps name xs is_empty = record { spelling = spelling_of ps name; name = name; attributes = xs; is_empty = is_empty; scope = scope_of ps }

pub record WroteHead (names : Prefixes) (is_root : Bool) (name : QName) (xs : List Attribute) : Type 0 where
  pub stem : List ℕ
  pub spells : (b : Bool) → SpellsHead (outer is_root names.pairs) (stem ++ tag_end b) (head_of names.pairs name xs b)
  pub printed_safe : IsSafe stem
  pub same : tag_text names is_root name xs ≡ 60 ∷ encode_utf8_all stem

built : (scope own : List Bound) (ps : Pairs) (raws : List Raw) (text : List ℕ) (name : QName) (xs : List Attribute) (b : Bool) → scope ++ own ≡ scope_of ps
    → IsSpelling (spelling_of ps name) → SpellsRaws raws text → has_twins same_pair (spellings raws) ≡ false → declared_at raws ≡ Ok own → attributes_in (scope_of ps) raws ≡ xs
    → has_twins same_pair (expanded_names xs) ≡ false → has_unknown (scope_of ps) raws ≡ false → element_name (scope_of ps) (spelling_of ps name) ≡ Ok name
    → SpellsHead scope ((spell (spelling_of ps name) ++ text) ++ tag_end b) (head_of ps name xs b)
built scope own ps raws text name xs b inner is spelled once declared back named_once none is_named =
    let stem : List ℕ = spell (spelling_of ps name) ++ text in
    let tag : SpellsTag (stem ++ tag_end b) (record { name = spelling_of ps name; attributes = raws; is_empty = b }) = record { raws = text; gap = []; name = is; attributes = spelled; blank = refl; whole = ap (λ (x : List ℕ). x ++ tag_end b) (sym (append-nil stem)) } in
    record {
      raws = raws;
      own = own;
      tag = tag;
      spelled_once = once;
      declared = declared;
      inner = sym inner;
      attributes = sym back ∙ ap (λ (v : List Bound). attributes_in v raws) (sym inner);
      named_once = ap (λ (v : List Bound). has_twins same_pair (expanded_names (attributes_in v raws))) inner ∙ ap (λ (ys : List Attribute). has_twins same_pair (expanded_names ys)) back ∙ named_once;
      known = ap (λ (v : List Bound). has_unknown v raws) inner ∙ none;
      name = ap (λ (v : List Bound). element_name v (spelling_of ps name)) inner ∙ is_named;
    }

tag_is : (names : Prefixes) (is_root : Bool) (name : QName) (xs : List Attribute) (text : List ℕ) → Known names.pairs name → root_text names is_root ++ attributes_text names xs ≡ encode_utf8_all text
    → tag_text names is_root name xs ≡ 60 ∷ encode_utf8_all (spell (spelling_of names.pairs name) ++ text)
unfolding tag_text name_text joined
tag_is names is_root name xs text k same =
    let s : List ℕ = spell (spelling_of names.pairs name) in
    ap (λ (x : List ℕ). 60 ∷ (x ++ (root_text names is_root ++ (attributes_text names xs ++ [])))) k.text
    ∙ ap (λ (x : List ℕ). 60 ∷ (s ++ (root_text names is_root ++ x))) (append-nil (attributes_text names xs))
    ∙ ap (λ (x : List ℕ). 60 ∷ (s ++ x)) same
    ∙ ap (λ (x : List ℕ). 60 ∷ (x ++ encode_utf8_all text)) (sym (spell_same (spelling_of names.pairs name) k.is))
    ∙ ap (λ (x : List ℕ). 60 ∷ x) (sym (encodes-append s text))

pub head_written : (names : Prefixes) (is_root : Bool) (name : QName) (xs : List Attribute) → ArePrefixes names → is_covered names name ≡ true → IsName name.local
    → list_all (λ a. is_covered names a.name) xs ≡ true → AreGood xs → has_twins same_pair (expanded_names xs) ≡ false → WroteHead names is_root name xs
head_written names true name xs are covered local all_covered good once =
    let ps : Pairs = names.pairs in
    let k = known names name are covered local in
    let ks = all_known names xs are all_covered good in
    let w = pairs_written ps (map (raw_of ps) xs) (attributes_text names xs) are.pairs (attributes_written names xs good ks) in
    let raws : List Raw = map raw_of_pair ps ++ map (raw_of ps) xs in
    let declared : declared_at raws ≡ Ok (map bound_of ps) = pairs_declare [] ps (map (raw_of ps) xs) are.pairs ∙ declare_nothing ps (map bound_of ps) xs good ks in
    record {
      stem = spell (spelling_of ps name) ++ w.text;
      spells = λ b. built xml_scope (map bound_of ps) ps raws w.text name xs b refl k.is w.spells (all_apart ps ps xs are.pairs are.different good ks once) declared (pairs_attributes (scope_of ps) ps (map (raw_of ps) xs) ∙ attributes_back ps xs good ks) once (pairs_known (scope_of ps) ps (map (raw_of ps) xs) ∙ none_unknown ps xs good ks) k.element;
      printed_safe = all_join safe (spell (spelling_of ps name)) w.text (spell_safe (spelling_of ps name) k.is) w.printed_safe;
      same = tag_is names true name xs w.text k w.same;
    }
head_written names false name xs are covered local all_covered good once =
    let ps : Pairs = names.pairs in
    let k = known names name are covered local in
    let ks = all_known names xs are all_covered good in
    let w = attributes_written names xs good ks in
    let raws : List Raw = map (raw_of ps) xs in
    record {
      stem = spell (spelling_of ps name) ++ w.text;
      spells = λ b. built (scope_of ps) [] ps raws w.text name xs b (append-nil (scope_of ps)) k.is w.spells (attributes_apart ps xs ks once) (declare_nothing ps [] xs good ks) (attributes_back ps xs good ks) once (none_unknown ps xs good ks) k.element;
      printed_safe = all_join safe (spell (spelling_of ps name)) w.text (spell_safe (spelling_of ps name) k.is) w.printed_safe;
      same = tag_is names false name xs w.text k w.same;
    }
