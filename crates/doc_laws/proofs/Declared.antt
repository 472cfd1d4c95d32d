-- The attributes and declarations of a canonical start tag, and what a reader makes of them.
use Rattle.std.proofs.Common.{◌≡◌, ℕ, ◌<◌, Bool, true, false, ◌||◌, List, [], ◌∷◌, ◌++◌, length, map, Some, Ok, refl, sym, ap, subst, ◌∙◌, append_assoc, arith}
use Rattle.std.specs.Prelude.{codes, ◌==◌}
use Rattle.std.specs.List.{list_all, list_any}
use Rattle.std.specs.Str.{bytes_eq}
use Rattle.std.proofs.lemmas.Bool.{eqb-true}
use Rattle.std.proofs.lemmas.List.{append-nil}
use Rattle.wfs_ends.specs.Read.{each}
use Rattle.doc_tree.specs.declared.tree.Attribute.{Attribute}
use Rattle.doc_tree.specs.declared.tree.Prefixes.{Prefixes}
use Rattle.doc_read.specs.declared.scope.Bound.{Bound}
use Rattle.doc_read.specs.Lex.{Spelling, Raw}
use Rattle.doc_read.specs.Scope.{has_twins, same_pair, written, spellings, expanded, expanded_names, is_declaration, declared_step, attribute_space, attribute_of, attributes_in, is_unknown, has_unknown}
use Rattle.doc_read.specs.Grammar.{IsSpelling}
use Rattle.doc_read.proofs.Fronts.{both, false_unless}
use Rattle.doc_read.proofs.Again.{same_bytes}
use Rattle.doc_read.proofs.Repeats.{pair_is, pair_itself}
use Rattle.doc_laws.specs.RoundTrip.{IsPair, ArePairs, ArePrefixes, is_covered}
use Rattle.doc_laws.proofs.Encoding.{name_same}
use Rattle.doc_laws.proofs.Facts.{IsGood, AreGood}
use Rattle.doc_laws.proofs.Prefixed.{Pairs, bound_of, scope_of, spelling_of, Known, known, neither, clash, written_apart}

abbrev pub raw_of : Pairs → Attribute → Raw
raw_of ps a = record { name = spelling_of ps a.name; value = a.value }

abbrev pub raw_of_pair : List ℕ × List ℕ → Raw
raw_of_pair pair = record { name = record { prefix = codes "xmlns"; local = pair.0 }; value = pair.1 }

abbrev pub AreKnown : Pairs → List Attribute → Type 0
AreKnown ps [] = Unit {0}
AreKnown ps (a ∷ xs) = Known ps a.name × AreKnown ps xs

pub all_known : (names : Prefixes) (xs : List Attribute) → ArePrefixes names → list_all (λ a. is_covered names a.name) xs ≡ true → AreGood xs → AreKnown names.pairs xs
all_known names [] are covered good = tt
all_known names (a ∷ xs) are covered good =
    let k = both (is_covered names a.name) (list_all (λ a. is_covered names a.name) xs) covered in
    (known names a.name are k.0 good.0.local, all_known names xs are k.1 good.1)

-- ---- attributes

undeclared : (ps : Pairs) (a : Attribute) → IsGood a → Known ps a.name → is_declaration (spelling_of ps a.name) ≡ false
undeclared ps a good k = k.undeclared good.no_xmlns

attribute_back : (ps : Pairs) (a : Attribute) → IsGood a → Known ps a.name → attribute_of (scope_of ps) (raw_of ps a) ≡ a ∷ []
unfolding attribute_of
attribute_back ps a good k =
    let other : is_declaration (spelling_of ps a.name) ≡ false = undeclared ps a good k in
    let space : attribute_space (scope_of ps) (spelling_of ps a.name) ≡ Some a.name.space = k.attribute in
    rw (other, space, name_same a.name.local good.local) refl

pub attributes_back : (ps : Pairs) (xs : List Attribute) → AreGood xs → AreKnown ps xs → attributes_in (scope_of ps) (map (raw_of ps) xs) ≡ xs
attributes_back ps [] good known = refl
attributes_back ps (a ∷ xs) good known =
    ap (λ (t : List Attribute). t ++ attributes_in (scope_of ps) (map (raw_of ps) xs)) (attribute_back ps a good.0 known.0) ∙ ap (λ (t : List Attribute). a ∷ t) (attributes_back ps xs good.1 known.1)

is_known : (ps : Pairs) (a : Attribute) → IsGood a → Known ps a.name → is_unknown (scope_of ps) (raw_of ps a) ≡ false
is_known ps a good k =
    let other : is_declaration (spelling_of ps a.name) ≡ false = undeclared ps a good k in
    let space : attribute_space (scope_of ps) (spelling_of ps a.name) ≡ Some a.name.space = k.attribute in
    rw (other, space) refl

pub none_unknown : (ps : Pairs) (xs : List Attribute) → AreGood xs → AreKnown ps xs → has_unknown (scope_of ps) (map (raw_of ps) xs) ≡ false
unfolding has_unknown
none_unknown ps [] good known = refl
none_unknown ps (a ∷ xs) good known =
    ap (λ (b : Bool). b || has_unknown (scope_of ps) (map (raw_of ps) xs)) (is_known ps a good.0 known.0) ∙ none_unknown ps xs good.1 known.1

declares_nothing : (ps : Pairs) (found : List Bound) (a : Attribute) → IsGood a → Known ps a.name → declared_step found (raw_of ps a) ≡ Ok found
unfolding declared_step
declares_nothing ps found a good k =
    let other : is_declaration (spelling_of ps a.name) ≡ false = undeclared ps a good k in
    rw other refl

pub declare_nothing : (ps : Pairs) (found : List Bound) (xs : List Attribute) → AreGood xs → AreKnown ps xs → each declared_step found (map (raw_of ps) xs) ≡ Ok found
unfolding each
declare_nothing ps found [] good known = refl
declare_nothing ps found (a ∷ xs) good known = rw (declares_nothing ps found a good.0 known.0) (declare_nothing ps found xs good.1 known.1)

-- ---- declarations

pub pairs_attributes : (scope : List Bound) (ps : Pairs) (rs : List Raw) → attributes_in scope (map raw_of_pair ps ++ rs) ≡ attributes_in scope rs
unfolding attribute_of
pairs_attributes scope [] rs = refl
pairs_attributes scope (pair ∷ ps) rs = pairs_attributes scope ps rs

pub pairs_known : (scope : List Bound) (ps : Pairs) (rs : List Raw) → has_unknown scope (map raw_of_pair ps ++ rs) ≡ has_unknown scope rs
unfolding has_unknown
pairs_known scope [] rs = refl
pairs_known scope (pair ∷ ps) rs = pairs_known scope ps rs

some_space : (n : ℕ) → 0 < n → (n == 0) ≡ false
some_space n some = false_unless (n == 0) (λ e. absurd (omega (arith, eqb-true n 0 e)))

pair_declares : (found : List Bound) (pair : List ℕ × List ℕ) → IsPair pair → declared_step found (raw_of_pair pair) ≡ Ok (found ++ bound_of pair ∷ [])
unfolding declared_step
pair_declares found pair is =
    let some : (length pair.1 == 0) ≡ false = some_space (length pair.1) is.some in
    rw (some, is.no_xml, name_same pair.0 is.name) refl

pub pairs_declare : (found : List Bound) (ps : Pairs) (rs : List Raw) → ArePairs ps → each declared_step found (map raw_of_pair ps ++ rs) ≡ each declared_step (found ++ map bound_of ps) rs
unfolding each
pairs_declare found [] rs are = ap (λ (x : List Bound). each declared_step x rs) (sym (append-nil found))
pairs_declare found (pair ∷ ps) rs are =
    rw (pair_declares found pair are.0) (pairs_declare (found ++ bound_of pair ∷ []) ps rs are.1)
    ∙ ap (λ (x : List Bound). each declared_step x rs) (append_assoc found (bound_of pair ∷ []) (map bound_of ps))

-- ---- no name comes twice

same_name : (ps : Pairs) (a b : Attribute) → Known ps a.name → Known ps b.name → written (spelling_of ps a.name) ≡ written (spelling_of ps b.name) → expanded a.name ≡ expanded b.name
same_name ps a b j k e =
    let s : spelling_of ps a.name ≡ spelling_of ps b.name = written_apart (spelling_of ps a.name) (spelling_of ps b.name) j.is k.is e in
    let local : a.name.local ≡ b.name.local = ap (λ (x : Spelling). x.local) s in
    let found : Some a.name.space ≡ Some b.name.space = sym j.attribute ∙ ap (attribute_space (scope_of ps)) s ∙ k.attribute in
    let space : a.name.space ≡ b.name.space = cc in
    rw (local, space) refl

differ : {K : Type 0} (eq : K → K → Bool) (x y : K) (v w : List ℕ × List ℕ) → eq x x ≡ true → (v ≡ w → x ≡ y) → eq x y ≡ false → same_pair v w ≡ false
differ {K} eq x y v w itself same other = false_unless (same_pair v w) (λ e. clash (eq x y) (subst (λ (z : K). eq x z ≡ true) (same (pair_is v w e)) itself) other)

one_apart : (ps : Pairs) (a : Attribute) (xs : List Attribute) → Known ps a.name → AreKnown ps xs → list_any (same_pair (expanded a.name)) (expanded_names xs) ≡ false → list_any (same_pair (written (spelling_of ps a.name))) (spellings (map (raw_of ps) xs)) ≡ false
one_apart ps a [] k known other = refl
one_apart ps a (b ∷ xs) k known other =
    let n = neither (same_pair (expanded a.name) (expanded b.name)) (list_any (same_pair (expanded a.name)) (expanded_names xs)) other in
    let here = differ same_pair (expanded a.name) (expanded b.name) (written (spelling_of ps a.name)) (written (spelling_of ps b.name)) (pair_itself (expanded a.name)) (same_name ps a b k known.0) n.0 in
    ap (λ (c : Bool). c || list_any (same_pair (written (spelling_of ps a.name))) (spellings (map (raw_of ps) xs))) here ∙ one_apart ps a xs k known.1 n.1

pub attributes_apart : (ps : Pairs) (xs : List Attribute) → AreKnown ps xs → has_twins same_pair (expanded_names xs) ≡ false → has_twins same_pair (spellings (map (raw_of ps) xs)) ≡ false
unfolding has_twins
attributes_apart ps [] known once = refl
attributes_apart ps (a ∷ xs) known once =
    let n = neither (list_any (same_pair (expanded a.name)) (expanded_names xs)) (has_twins same_pair (expanded_names xs)) once in
    ap (λ (c : Bool). c || has_twins same_pair (spellings (map (raw_of ps) xs))) (one_apart ps a xs known.0 known.1 n.0) ∙ attributes_apart ps xs known.1 n.1

pair_spelled : (pair : List ℕ × List ℕ) → IsPair pair → IsSpelling (raw_of_pair pair).name
pair_spelled pair is = record { prefix = record { first = refl; each = refl }; local = is.name }

pub declaration_spelled : (pair : List ℕ × List ℕ) → IsPair pair → IsSpelling (raw_of_pair pair).name
declaration_spelled = pair_spelled

from_attributes : (ps : Pairs) (pair : List ℕ × List ℕ) (xs : List Attribute) → IsPair pair → AreGood xs → AreKnown ps xs → list_any (same_pair (written (raw_of_pair pair).name)) (spellings (map (raw_of ps) xs)) ≡ false
from_attributes ps pair [] is good known = refl
from_attributes ps pair (a ∷ xs) is good known =
    let here : same_pair (written (raw_of_pair pair).name) (written (spelling_of ps a.name)) ≡ false = false_unless (same_pair (written (raw_of_pair pair).name) (written (spelling_of ps a.name))) (λ e.
    let s : (raw_of_pair pair).name ≡ spelling_of ps a.name = written_apart (raw_of_pair pair).name (spelling_of ps a.name) (pair_spelled pair is) known.0.is (pair_is _ _ e) in
    clash (is_declaration (spelling_of ps a.name)) (ap is_declaration (sym s)) (undeclared ps a good.0 known.0)) in
    ap (λ (c : Bool). c || list_any (same_pair (written (raw_of_pair pair).name)) (spellings (map (raw_of ps) xs))) here ∙ from_attributes ps pair xs is good.1 known.1

from_pairs : (pair : List ℕ × List ℕ) (ps : Pairs) (rs : List Raw) → IsPair pair → ArePairs ps → list_any (bytes_eq pair.0) (map (λ pair. pair.0) ps) ≡ false → list_any (same_pair (written (raw_of_pair pair).name)) (spellings rs) ≡ false
    → list_any (same_pair (written (raw_of_pair pair).name)) (spellings (map raw_of_pair ps ++ rs)) ≡ false
from_pairs pair [] rs is are other rest = rest
from_pairs pair (p ∷ ps) rs is are other rest =
    let n = neither (bytes_eq pair.0 p.0) (list_any (bytes_eq pair.0) (map (λ pair. pair.0) ps)) other in
    let same = λ (e : written (raw_of_pair pair).name ≡ written (raw_of_pair p).name). ap (λ (s : Spelling). s.local) (written_apart (raw_of_pair pair).name (raw_of_pair p).name (pair_spelled pair is) (pair_spelled p are.0) e) in
    let here = differ bytes_eq pair.0 p.0 (written (raw_of_pair pair).name) (written (raw_of_pair p).name) (same_bytes pair.0) same n.0 in
    ap (λ (c : Bool). c || list_any (same_pair (written (raw_of_pair pair).name)) (spellings (map raw_of_pair ps ++ rs))) here ∙ from_pairs pair ps rs is are.1 n.1 rest

pub all_apart : (all ps : Pairs) (xs : List Attribute) → ArePairs ps → has_twins bytes_eq (map (λ pair. pair.0) ps) ≡ false → AreGood xs → AreKnown all xs → has_twins same_pair (expanded_names xs) ≡ false → has_twins same_pair (spellings (map raw_of_pair ps ++ map (raw_of all) xs)) ≡ false
unfolding has_twins
all_apart all [] xs are different good known once = attributes_apart all xs known once
all_apart all (pair ∷ ps) xs are different good known once =
    let n = neither (list_any (bytes_eq pair.0) (map (λ pair. pair.0) ps)) (has_twins bytes_eq (map (λ pair. pair.0) ps)) different in
    let here = from_pairs pair ps (map (raw_of all) xs) are.0 are.1 n.0 (from_attributes all pair xs are.0 good known) in
    ap (λ (c : Bool). c || has_twins same_pair (spellings (map raw_of_pair ps ++ map (raw_of all) xs))) here ∙ all_apart all ps xs are.1 n.1 good known once
