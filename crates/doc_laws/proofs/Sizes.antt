-- A tree that some text spells is no larger than the text allows, and holds texts alone.
use Rattle.std.proofs.Common.{◌≡◌, ℕ, suc, pred, ◌+◌, ◌<◌, ◌≤◌, Bool, true, ◌&&◌, List, [], ◌∷◌, ◌++◌, map, sum, refl, sym, ap, subst, ◌∙◌, arith}
use Rattle.std.specs.Prelude.{encode_utf8_all, nat_le}
use Rattle.std.specs.List.{list_all}
use Rattle.std.specs.Str.{is_utf8, chars}
use Rattle.std.proofs.lemmas.List.Folds.{list_all-map}
use Rattle.std.proofs.lemmas.List.Sums.{sum_by-cons}
use Rattle.std.proofs.lemmas.Bool.Decides.{nat_tests}
use Rattle.std.proofs.lemmas.Str.{encode_ascii, is_utf8-from_IsUtf8, IsUtf8-from_is_utf8, encodes-chars, chars-encodes}
use Rattle.doc_tree.specs.declared.tree.QName.{QName}
use Rattle.doc_tree.specs.declared.tree.Attribute.{Attribute}
use Rattle.doc_tree.specs.declared.tree.Element.{Element, out-Element}
use Rattle.doc_tree.specs.declared.tree.Element.TheOpen.{Element-F}
use Rattle.doc_tree.specs.declared.tree.Element.TheFolds.{fold-roll-Element, fold_out-Element}
use Rattle.doc_tree.specs.Characters.{is_allowed}
use Rattle.doc_read.specs.declared.scope.Bound.{Bound}
use Rattle.doc_read.specs.Element.{tree}
use Rattle.doc_read.specs.Grammar.{spell, Markup, leaf, whole, Content, last, piece, child, print, print_content, print_piece, content_text, meaning, children, count, counts, text_if, IsMarkup, IsContent}
use Rattle.doc_read.proofs.Fronts.{both}
use Rattle.doc_laws.specs.InDocument.{greatest, levels, elements, is_text, holds_texts}
use Rattle.doc_laws.proofs.Encoding.{all_both, are_scalars}
use Rattle.doc_laws.proofs.Facts.{AreAllowed, AllStand, Meant, AreGood, content_meant, head_facts}

-- ---- texts

pub meant_text : (text : List ℕ) → Meant text → is_text text ≡ true
meant_text text meant =
    let scalars = are_scalars meant.characters meant.allowed in
    let utf8 : is_utf8 text ≡ true = is_utf8-from_IsUtf8 text (meant.characters, (scalars, sym meant.is)) in
    let same : chars text ≡ meant.characters = ap chars meant.is ∙ chars-encodes meant.characters scalars in
    rw (utf8, same) meant.allowed

pub text_meant : (text : List ℕ) → is_text text ≡ true → Meant text
text_meant text is =
    let k = both (is_utf8 text) (list_all is_allowed (chars text)) is in
    record { characters = chars text; allowed = k.1; is = sym (encodes-chars text (IsUtf8-from_is_utf8 text k.0)) }

pub no_text : Meant []
no_text = record { characters = []; allowed = refl; is = refl }

-- bytes that are characters of their own, and that can be seen
abbrev pub is_visible : ℕ → Bool
is_visible b = nat_le 32 b && nat_le b 126

visible_low : (b : ℕ) → is_visible b ≡ true → b < 128
visible_low b h = grind (arith, nat_tests, h)

visible_allowed : (b : ℕ) → is_visible b ≡ true → is_allowed b ≡ true
visible_allowed b h = grind (arith, nat_tests, h)

pub visible_meant : (bs : List ℕ) → list_all is_visible bs ≡ true → Meant bs
visible_meant [] h = no_text
visible_meant (b ∷ bs) h =
    let k = both (is_visible b) (list_all is_visible bs) h in
    let rest = visible_meant bs k.1 in
    record {
      characters = b ∷ rest.characters;
      allowed = rw (visible_allowed b k.0) rest.allowed;
      is = ap (λ (x : List ℕ). b ∷ x) rest.is ∙ ap (λ (x : List ℕ). x ++ encode_utf8_all rest.characters) (sym (encode_ascii b (visible_low b k.0)));
    }

values_hold : (xs : List Attribute) → AreGood xs → list_all (λ a. is_text a.value) xs ≡ true
values_hold [] good = refl
values_hold (a ∷ xs) good = rw (meant_text a.value good.0.value, values_hold xs good.1) refl

-- ---- what is known of an element and its children

-- an element of so many levels and elements at most, which holds texts alone
pub record Fits (d n : ℕ) (e : Element) : Type 0 where
  pub texts : holds_texts e ≡ true
  pub deep : levels e ≤ d
  pub many : elements e ≤ n

-- the same of elements that stand side by side
pub record FitAll (d n : ℕ) (es : List Element) : Type 0 where
  pub texts : list_all holds_texts es ≡ true
  pub deep : greatest (map levels es) ≤ d
  pub many : sum (map elements es) ≤ n

abbrev layer : QName → List Attribute → List Element → List ℕ → Element-F Element
layer name xs kids text = record { name = name; attributes = xs; children = kids; text = text }

abbrev holds : Element-F Bool → Bool
holds e = is_text e.text && list_all (λ a. is_text a.value) e.attributes && list_all (λ c. c) e.children

tree_fits : (d n : ℕ) (name : QName) (xs : List Attribute) (kids : List Element) (text : List ℕ) → AreGood xs → Meant text → FitAll d n kids → Fits (suc d) (suc n) (tree name xs kids text)
unfolding levels elements holds_texts
tree_fits d n name xs kids text good meant all = record {
  texts = fold-roll-Element Bool holds (layer name xs kids text) ∙ rw (meant_text text meant, values_hold xs good) (list_all-map (λ c. c) holds_texts kids ∙ all.texts);
  deep = subst (λ (x : ℕ). x ≤ suc d) (sym (fold-roll-Element ℕ (λ e. suc (greatest e.children)) (layer name xs kids text))) (omega (arith, all.deep));
  many = subst (λ (x : ℕ). x ≤ suc n) (sym (fold-roll-Element ℕ (λ e. suc (sum e.children)) (layer name xs kids text))) (omega (arith, all.many));
}

sum_cons : (n : ℕ) (ns : List ℕ) → sum (n ∷ ns) ≡ n + sum ns
sum_cons n ns = sum_by-cons (λ n. n) n ns

pub none_fit : (d : ℕ) → FitAll d 0 []
none_fit d = record { texts = refl; deep = omega arith; many = omega arith }

one_fits : (d n m : ℕ) (e : Element) (es : List Element) → Fits d n e → FitAll d m es → FitAll d (n + m) (e ∷ es)
one_fits d n m e es one all = record { texts = rw one.texts all.texts; deep = omega (arith, one.deep, all.deep); many = omega (arith, sum_cons (elements e) (map elements es), one.many, all.many) }

pub fits_more : (d k n m : ℕ) (e : Element) → d ≤ k → n ≤ m → Fits d n e → Fits k m e
fits_more d k n m e deeper more f = record { texts = f.texts; deep = omega (arith, deeper, f.deep); many = omega (arith, more, f.many) }

-- what an element is made of
pub record Parts (d n : ℕ) (e : Element) : Type 0 where
  pub deep : 0 < d
  pub many : 0 < n
  pub text : is_text (out-Element e).text ≡ true
  pub values : list_all (λ a. is_text a.value) (out-Element e).attributes ≡ true
  pub kids : FitAll (pred d) (pred n) (out-Element e).children

pub parts : (d n : ℕ) (e : Element) → Fits d n e → Parts d n e
unfolding levels elements holds_texts
parts d n e f =
    let o = out-Element e in
    let texts = sym (fold_out-Element Bool holds e) ∙ f.texts in
    let deep : suc (greatest (map levels o.children)) ≤ d = subst (λ (x : ℕ). x ≤ d) (fold_out-Element ℕ (λ e. suc (greatest e.children)) e) f.deep in
    let many : suc (sum (map elements o.children)) ≤ n = subst (λ (x : ℕ). x ≤ n) (fold_out-Element ℕ (λ e. suc (sum e.children)) e) f.many in
    let a = both (is_text o.text && list_all (λ a. is_text a.value) o.attributes) (list_all (λ c. c) (map holds_texts o.children)) texts in
    let b = both (is_text o.text) (list_all (λ a. is_text a.value) o.attributes) a.0 in
    record {
      deep = omega (arith, deep);
      many = omega (arith, many);
      text = b.0;
      values = b.1;
      kids = record { texts = sym (list_all-map (λ c. c) holds_texts o.children) ∙ a.1; deep = omega (arith, deep); many = omega (arith, many) };
    }

-- the first of several elements, and those behind it
pub record Split (d n : ℕ) (e : Element) (es : List Element) : Type 0 where
  pub here : ℕ
  pub there : ℕ
  pub total : here + there ≤ n
  pub one : Fits d here e
  pub rest : FitAll d there es
  pub deep : 0 < d
  pub some : 0 < here

pub split : (d n : ℕ) (e : Element) (es : List Element) → FitAll d n (e ∷ es) → Split d n e es
split d n e es f =
    let k = both (holds_texts e) (list_all holds_texts es) f.texts in
    let one : Fits d (elements e) e = record { texts = k.0; deep = omega (arith, f.deep); many = omega arith } in
    let inside = parts d (elements e) e one in
    record {
      here = elements e;
      there = sum (map elements es);
      total = omega (arith, f.many, sum_cons (elements e) (map elements es));
      one = one;
      rest = record { texts = k.1; deep = omega (arith, f.deep); many = omega arith };
      deep = inside.deep;
      some = inside.many;
    }

-- ---- what some text spells

text_if_meant : (kids : List Element) (text : List ℕ) → Meant text → Meant (text_if kids text)
text_if_meant [] text meant = meant
text_if_meant (k ∷ kids) text meant = no_text

mutual
  pub markup_fits : (m : Markup) (d : ℕ) (scope : List Bound) → IsMarkup m d scope → AllStand scope → AreAllowed (print m) → Fits d (count m) (meaning m)
  markup_fits (leaf text h) d scope is all allowed =
      let f = head_facts scope text h all is.2 allowed in
      fits_more 1 d 1 1 _ (omega (arith, is.0)) (omega arith) (tree_fits 0 0 h.name h.attributes [] [] f.attributes no_text (none_fit 0))
  markup_fits (whole text h inside gap) d scope is all allowed =
      let a = all_both is_allowed text (print_content inside ++ 60 ∷ 47 ∷ (spell h.spelling ++ (gap ++ 62 ∷ []))) allowed in
      let b = all_both is_allowed (print_content inside) (60 ∷ 47 ∷ (spell h.spelling ++ (gap ++ 62 ∷ []))) a.1 in
      let f = head_facts scope text h all is.2 a.0 in
      let meant = text_if_meant (children inside) (content_text inside) (content_meant inside (pred d) h.scope is.4 b.0) in
      fits_more (suc (pred d)) d (suc (counts inside)) (suc (counts inside)) _ (omega (arith, is.0)) (omega arith)
      (tree_fits (pred d) (counts inside) h.name h.attributes (children inside) _ f.attributes meant (content_fits inside (pred d) h.scope is.4 f.scope b.0))

  pub content_fits : (c : Content) (d : ℕ) (scope : List Bound) → IsContent c d scope → AllStand scope → AreAllowed (print_content c) → FitAll d (counts c) (children c)
  content_fits (last run) d scope is all allowed = none_fit d
  content_fits (piece run p c) d scope is all allowed =
      let a = all_both is_allowed run (print_piece p ++ print_content c) allowed in
      let b = all_both is_allowed (print_piece p) (print_content c) a.1 in
      content_fits c d scope is.2 all b.1
  content_fits (child run m c) d scope is all allowed =
      let a = all_both is_allowed run (60 ∷ (print m ++ print_content c)) allowed in
      let b = all_both is_allowed (print m) (print_content c) a.1 in
      one_fits d (count m) (counts c) (meaning m) (children c) (markup_fits m d scope is.1 all b.0) (content_fits c d scope is.2 all b.1)
