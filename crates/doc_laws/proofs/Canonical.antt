-- The canonical text of an element is an element's text, and means that element.
use Rattle.std.proofs.Common.{◌≡◌, ℕ, suc, pred, ◌+◌, ◌<◌, ◌≤◌, Bool, true, false, ◌&&◌, cond, List, [], ◌∷◌, ◌++◌, length, refl, sym, ap, subst, ◌∙◌, append_assoc, arith}
use Rattle.std.specs.Prelude.{encode_utf8_all, codes, ◌==◌}
use Rattle.std.specs.List.{list_all, flat_map}
use Rattle.std.proofs.lemmas.List.{append-nil}
use Rattle.std.proofs.lemmas.List.Folds.{list_all-map}
use Rattle.std.proofs.lemmas.Bool.{eqb-true}
use Rattle.std.proofs.lemmas.Str.{encodes-append, length-le-encodes}
use Rattle.wfs_ends.specs.Ends.{joined}
use Rattle.doc_tree.specs.Escape.{escaped}
use Rattle.doc_tree.specs.Tree.{name_text, tag_text, leaf_text, opened_text, end_tag_text, element_text}
use Rattle.doc_tree.specs.declared.tree.QName.{QName}
use Rattle.doc_tree.specs.declared.tree.Attribute.{Attribute}
use Rattle.doc_tree.specs.declared.tree.Element.{Element}
use Rattle.doc_tree.specs.declared.tree.Element.TheOpen.{Element-F}
use Rattle.doc_tree.specs.declared.tree.Element.TheViews.{out-roll-Element}
use Rattle.doc_tree.specs.declared.tree.Element.TheFolds.{fold-roll-Element}
use Rattle.doc_tree.specs.declared.tree.Prefixes.{Prefixes}
use Rattle.doc_tree.proofs.Trees.{leaf_is, full_is}
use Rattle.doc_read.specs.declared.scope.Bound.{Bound}
use Rattle.doc_read.specs.declared.lex.Class.TheVariants.{Space}
use Rattle.doc_tree.specs.Characters.{is_allowed}
use Rattle.doc_read.specs.Chars.{holds}
use Rattle.doc_read.specs.Element.{Head, tree}
use Rattle.doc_read.specs.Grammar.{spell, tag_end, Markup, leaf, whole, Content, last, piece, child, print, print_content, print_piece, content_text, meaning, children, count, counts, text_if, IsMarkup, IsContent, IsFew, IsUnmixed}
use Rattle.doc_read.proofs.Fronts.{both, false_unless}
use Rattle.doc_laws.specs.RoundTrip.{ArePrefixes, is_covered, covers}
use Rattle.doc_laws.proofs.Encoding.{safe, IsSafe, all_both, all_join}
use Rattle.doc_laws.proofs.Escapes.{plain_run, characters_written, text_written, text_fits, text_childless, text_uncounted}
use Rattle.doc_laws.proofs.Facts.{AreAllowed, AllStand, Meant, content_meant, Facts, head_facts, not_zero}
use Rattle.doc_laws.proofs.Prefixed.{scope_of, spelling_of, Known, known, spell_same, spell_safe}
use Rattle.doc_laws.proofs.Heads.{outer, head_of, WroteHead, head_written}

-- ---- trees by their parts

abbrev layer : QName → List Attribute → List Element → List ℕ → Element-F Element
layer name xs kids text = record { name = name; attributes = xs; children = kids; text = text }

leaf_tree : (names : Prefixes) (is_root : Bool) (name : QName) (xs : List Attribute) (text : List ℕ) → element_text names is_root (tree name xs [] text) ≡ joined (tag_text names is_root name xs ∷ leaf_text names name text ∷ [])
leaf_tree names is_root name xs text =
    let is = out-roll-Element (layer name xs [] text) in
    leaf_is names is_root (tree name xs [] text) (ap (λ (o : Element-F Element). length o.children == 0) is)
    ∙ ap (λ (o : Element-F Element). joined (tag_text names is_root o.name o.attributes ∷ leaf_text names o.name o.text ∷ [])) is

full_tree : (names : Prefixes) (is_root : Bool) (name : QName) (xs : List Attribute) (kid : Element) (kids : List Element) (text : List ℕ)
    → element_text names is_root (tree name xs (kid ∷ kids) text) ≡ joined (tag_text names is_root name xs ∷ opened_text text ∷ flat_map (element_text names false) (kid ∷ kids) ∷ end_tag_text names name ∷ [])
full_tree names is_root name xs kid kids text =
    let is = out-roll-Element (layer name xs (kid ∷ kids) text) in
    full_is names is_root (tree name xs (kid ∷ kids) text) (ap (λ (o : Element-F Element). length o.children == 0) is ∙ not_zero (length kids))
    ∙ ap (λ (o : Element-F Element). joined (tag_text names is_root o.name o.attributes ∷ opened_text o.text ∷ flat_map (element_text names false) o.children ∷ end_tag_text names o.name ∷ [])) is

-- ---- covered trees

covers_tree : (names : Prefixes) (name : QName) (xs : List Attribute) (kids : List Element) (text : List ℕ)
    → covers names (tree name xs kids text) ≡ (is_covered names name && list_all (λ a. is_covered names a.name) xs && list_all (covers names) kids)
unfolding covers
covers_tree names name xs kids text =
    fold-roll-Element Bool (λ e. is_covered names e.name && list_all (λ a. is_covered names a.name) e.attributes && list_all (λ c. c) e.children) (layer name xs kids text)
    ∙ ap (λ (b : Bool). is_covered names name && list_all (λ a. is_covered names a.name) xs && b) (list_all-map (λ c. c) (covers names) kids)

pub record Covered (names : Prefixes) (name : QName) (xs : List Attribute) (kids : List Element) : Type 0 where
  pub own : is_covered names name ≡ true
  pub attributes : list_all (λ a. is_covered names a.name) xs ≡ true
  pub children : list_all (covers names) kids ≡ true

covered : (names : Prefixes) (name : QName) (xs : List Attribute) (kids : List Element) (text : List ℕ) → covers names (tree name xs kids text) ≡ true → Covered names name xs kids
covered names name xs kids text h =
    let a = both (is_covered names name && list_all (λ a. is_covered names a.name) xs) (list_all (covers names) kids) (sym (covers_tree names name xs kids text) ∙ h) in
    let b = both (is_covered names name) (list_all (λ a. is_covered names a.name) xs) a.0 in
    record { own = b.0; attributes = b.1; children = a.1 }

-- ---- what is built

pub record Canon (names : Prefixes) (is_root : Bool) (d : ℕ) (e : Element) (n : ℕ) : Type 0 where
  pub markup : Markup
  pub fits : IsMarkup markup d (outer is_root names.pairs)
  pub means : meaning markup ≡ e
  pub counted : count markup ≤ n
  pub printed_safe : IsSafe (print markup)
  pub same : element_text names is_root e ≡ 60 ∷ encode_utf8_all (print markup)

-- elements side by side, each of which may be a root
pub record CanonContent (names : Prefixes) (is_root : Bool) (d : ℕ) (kids : List Element) (n : ℕ) : Type 0 where
  pub content : Content
  pub fits : IsContent content d (outer is_root names.pairs)
  pub kids_are : children content ≡ kids
  pub words : content_text content ≡ []
  pub counted : counts content ≤ n
  pub printed_safe : IsSafe (print_content content)
  pub same : flat_map (element_text names is_root) kids ≡ encode_utf8_all (print_content content)

-- ---- an element without content

leaf_bytes : (names : Prefixes) (is_root : Bool) (name : QName) (xs : List Attribute) (stem : List ℕ) → tag_text names is_root name xs ≡ 60 ∷ encode_utf8_all stem
    → element_text names is_root (tree name xs [] []) ≡ 60 ∷ encode_utf8_all (stem ++ tag_end true)
unfolding leaf_text joined lib.Utf8.encode
leaf_bytes names is_root name xs stem same =
    leaf_tree names is_root name xs []
    ∙ ap (λ (x : List ℕ). x ++ 47 ∷ 62 ∷ []) same
    ∙ ap (λ (x : List ℕ). 60 ∷ x) (sym (encodes-append stem (47 ∷ 62 ∷ [])))

leaf_canon : (names : Prefixes) (is_root : Bool) (d : ℕ) (name : QName) (xs : List Attribute) (n : ℕ) → 0 < d → 0 < n → IsFew xs → WroteHead names is_root name xs → Canon names is_root d (tree name xs [] []) n
leaf_canon names is_root d name xs n deep some few w = record {
  markup = leaf (w.stem ++ tag_end true) (head_of names.pairs name xs true);
  fits = (deep, refl, w.spells true, few);
  means = refl;
  counted = omega arith;
  printed_safe = all_join safe w.stem (47 ∷ 62 ∷ []) w.printed_safe refl;
  same = leaf_bytes names is_root name xs w.stem w.same;
}

-- ---- an element with content

-- the text of a whole element, around its content
pub frame : (stem body s : List ℕ) → encode_utf8_all s ≡ s
    → (60 ∷ encode_utf8_all stem) ++ ((62 ∷ encode_utf8_all body) ++ (60 ∷ 47 ∷ (s ++ 62 ∷ []))) ≡ 60 ∷ encode_utf8_all ((stem ++ tag_end false) ++ (body ++ 60 ∷ 47 ∷ (s ++ ([] ++ 62 ∷ []))))
unfolding lib.Utf8.encode
frame stem body s same =
    let end : encode_utf8_all (s ++ 62 ∷ []) ≡ s ++ 62 ∷ [] = encodes-append s (62 ∷ []) ∙ ap (λ (x : List ℕ). x ++ 62 ∷ []) same in
    let inner : encode_utf8_all (body ++ 60 ∷ 47 ∷ (s ++ 62 ∷ [])) ≡ encode_utf8_all body ++ 60 ∷ 47 ∷ (s ++ 62 ∷ []) = encodes-append body (60 ∷ 47 ∷ (s ++ 62 ∷ [])) ∙ ap (λ (x : List ℕ). encode_utf8_all body ++ 60 ∷ 47 ∷ x) end in
    ap (λ (x : List ℕ). 60 ∷ (encode_utf8_all stem ++ 62 ∷ x)) (sym inner)
    ∙ ap (λ (x : List ℕ). 60 ∷ x) (sym (encodes-append stem (62 ∷ (body ++ 60 ∷ 47 ∷ (s ++ 62 ∷ [])))))
    ∙ ap (λ (x : List ℕ). 60 ∷ encode_utf8_all x) (sym (append_assoc stem (62 ∷ []) (body ++ 60 ∷ 47 ∷ (s ++ 62 ∷ []))))

end_tag_is : (names : Prefixes) (name : QName) → Known names.pairs name → end_tag_text names name ≡ 60 ∷ 47 ∷ (spell (spelling_of names.pairs name) ++ 62 ∷ [])
unfolding end_tag_text name_text joined
end_tag_is names name k = ap (λ (x : List ℕ). 60 ∷ 47 ∷ (x ++ 62 ∷ [])) k.text

opened_is : (text body : List ℕ) → escaped false text ≡ encode_utf8_all body → opened_text text ≡ 62 ∷ encode_utf8_all body
unfolding opened_text joined
opened_is text body same = ap (λ (x : List ℕ). 62 ∷ x) (append-nil (escaped false text) ∙ same)

text_bytes : (names : Prefixes) (is_root : Bool) (name : QName) (xs : List Attribute) (text stem body : List ℕ) → (length text == 0) ≡ false → Known names.pairs name
    → tag_text names is_root name xs ≡ 60 ∷ encode_utf8_all stem → escaped false text ≡ encode_utf8_all body
    → element_text names is_root (tree name xs [] text) ≡ (60 ∷ encode_utf8_all stem) ++ ((62 ∷ encode_utf8_all body) ++ (60 ∷ 47 ∷ (spell (spelling_of names.pairs name) ++ 62 ∷ [])))
unfolding leaf_text joined
text_bytes names is_root name xs text stem body some k same inside =
    let end : List ℕ = 60 ∷ 47 ∷ (spell (spelling_of names.pairs name) ++ 62 ∷ []) in
    leaf_tree names is_root name xs text
    ∙ ap (λ (b : Bool). tag_text names is_root name xs ++ (cond b (codes "/>") (opened_text text ++ (end_tag_text names name ++ [])) ++ [])) some
    ∙ ap (λ (x : List ℕ). tag_text names is_root name xs ++ x) (append-nil (opened_text text ++ (end_tag_text names name ++ [])))
    ∙ ap (λ (x : List ℕ). tag_text names is_root name xs ++ (opened_text text ++ x)) (append-nil (end_tag_text names name) ∙ end_tag_is names name k)
    ∙ ap (λ (x : List ℕ). x ++ (opened_text text ++ end)) same
    ∙ ap (λ (x : List ℕ). (60 ∷ encode_utf8_all stem) ++ (x ++ end)) (opened_is text body inside)

full_bytes : (names : Prefixes) (is_root : Bool) (name : QName) (xs : List Attribute) (kid : Element) (kids : List Element) (stem body : List ℕ) → Known names.pairs name
    → tag_text names is_root name xs ≡ 60 ∷ encode_utf8_all stem → flat_map (element_text names false) (kid ∷ kids) ≡ encode_utf8_all body
    → element_text names is_root (tree name xs (kid ∷ kids) []) ≡ (60 ∷ encode_utf8_all stem) ++ ((62 ∷ encode_utf8_all body) ++ (60 ∷ 47 ∷ (spell (spelling_of names.pairs name) ++ 62 ∷ [])))
unfolding joined
full_bytes names is_root name xs kid kids stem body k same inside =
    let end : List ℕ = 60 ∷ 47 ∷ (spell (spelling_of names.pairs name) ++ 62 ∷ []) in
    let texts : List ℕ = flat_map (element_text names false) (kid ∷ kids) in
    full_tree names is_root name xs kid kids []
    ∙ ap (λ (x : List ℕ). tag_text names is_root name xs ++ (x ++ (texts ++ (end_tag_text names name ++ [])))) (opened_is [] [] (characters_written false [] refl))
    ∙ ap (λ (x : List ℕ). tag_text names is_root name xs ++ (62 ∷ (texts ++ x))) (append-nil (end_tag_text names name) ∙ end_tag_is names name k)
    ∙ ap (λ (x : List ℕ). x ++ (62 ∷ (texts ++ end))) same
    ∙ ap (λ (x : List ℕ). (60 ∷ encode_utf8_all stem) ++ (62 ∷ (x ++ end))) inside

pub whole_safe : (stem body s : List ℕ) → IsSafe stem → IsSafe body → IsSafe s → IsSafe ((stem ++ tag_end false) ++ (body ++ 60 ∷ 47 ∷ (s ++ ([] ++ 62 ∷ []))))
whole_safe stem body s a b c =
    all_join safe (stem ++ 62 ∷ []) (body ++ 60 ∷ 47 ∷ (s ++ 62 ∷ [])) (all_join safe stem (62 ∷ []) a refl)
    (all_join safe body (60 ∷ 47 ∷ (s ++ 62 ∷ [])) b (all_join safe s (62 ∷ []) c refl))

pub unmixed_if : (kids : List Element) (text : List ℕ) → text ≡ [] → IsUnmixed kids text
unmixed_if [] text none = tt
unmixed_if (k ∷ kids) text none = ap (list_all (holds Space)) none

text_canon : (names : Prefixes) (is_root : Bool) (d : ℕ) (name : QName) (xs : List Attribute) (text vs : List ℕ) (n : ℕ) → 0 < d → 0 < n → IsFew xs → Known names.pairs name → WroteHead names is_root name xs
    → list_all is_allowed vs ≡ true → text ≡ encode_utf8_all vs → (length text == 0) ≡ false → Canon names is_root d (tree name xs [] text) n
text_canon names is_root d name xs text vs n deep more few k w allowed is some =
    let t = text_written vs allowed in
    let childless : children t.content ≡ [] = text_childless vs t in
    let uncounted : counts t.content ≡ 0 = text_uncounted vs t in
    record {
      markup = whole (w.stem ++ tag_end false) (head_of names.pairs name xs false) t.content [];
      fits = (deep, refl, w.spells false, few, text_fits vs t (pred d) (scope_of names.pairs), refl, subst (λ (ks : List Element). IsUnmixed ks (content_text t.content)) (sym childless) tt);
      means = ap (λ (ks : List Element). tree name xs ks (text_if ks (content_text t.content))) childless ∙ ap (λ (x : List ℕ). tree name xs [] x) (t.means ∙ sym is);
      counted = omega arith;
      printed_safe = whole_safe w.stem (print_content t.content) (spell (spelling_of names.pairs name)) w.printed_safe t.printed_safe (spell_safe (spelling_of names.pairs name) k.is);
      same = text_bytes names is_root name xs text w.stem (print_content t.content) some k w.same (ap (escaped false) is ∙ characters_written false vs allowed ∙ t.bytes)
          ∙ frame w.stem (print_content t.content) (spell (spelling_of names.pairs name)) (spell_same (spelling_of names.pairs name) k.is);
    }

full_canon : (names : Prefixes) (is_root : Bool) (d : ℕ) (name : QName) (xs : List Attribute) (kid : Element) (kids : List Element) (n : ℕ) → 0 < d → IsFew xs → Known names.pairs name → WroteHead names is_root name xs
    → CanonContent names false (pred d) (kid ∷ kids) n → Canon names is_root d (tree name xs (kid ∷ kids) []) (suc n)
full_canon names is_root d name xs kid kids n deep few k w c = record {
  markup = whole (w.stem ++ tag_end false) (head_of names.pairs name xs false) c.content [];
  fits = (deep, refl, w.spells false, few, c.fits, refl, unmixed_if (children c.content) (content_text c.content) c.words);
  means = ap (λ (ks : List Element). tree name xs ks (text_if ks (content_text c.content))) c.kids_are;
  counted = omega (arith, c.counted);
  printed_safe = whole_safe w.stem (print_content c.content) (spell (spelling_of names.pairs name)) w.printed_safe c.printed_safe (spell_safe (spelling_of names.pairs name) k.is);
  same = full_bytes names is_root name xs kid kids w.stem (print_content c.content) k w.same c.same
      ∙ frame w.stem (print_content c.content) (spell (spelling_of names.pairs name)) (spell_same (spelling_of names.pairs name) k.is);
}

some_bytes : (v : ℕ) (vs text : List ℕ) → text ≡ encode_utf8_all (v ∷ vs) → (length text == 0) ≡ false
some_bytes v vs text is = false_unless (length text == 0) (λ e. absurd (omega (arith, eqb-true (length text) 0 e, ap length is, length-le-encodes (v ∷ vs))))

pub whole_canon : (names : Prefixes) (is_root : Bool) (d : ℕ) (name : QName) (xs : List Attribute) (kids : List Element) (text : List ℕ) (n : ℕ) → 0 < d → IsFew xs → Known names.pairs name → WroteHead names is_root name xs
    → Meant text → CanonContent names false (pred d) kids n → Canon names is_root d (tree name xs kids (text_if kids text)) (suc n)
whole_canon names is_root d name xs [] text n deep few k w meant c = go meant.characters meant.allowed meant.is
  where
    go : (vs : List ℕ) → list_all is_allowed vs ≡ true → text ≡ encode_utf8_all vs → Canon names is_root d (tree name xs [] text) (suc n)
    go [] allowed is = subst (λ (x : List ℕ). Canon names is_root d (tree name xs [] x) (suc n)) (sym is) (leaf_canon names is_root d name xs (suc n) deep (omega arith) few w)
    go (v ∷ vs) allowed is = text_canon names is_root d name xs text (v ∷ vs) (suc n) deep (omega arith) few k w allowed is (some_bytes v vs text is)
whole_canon names is_root d name xs (kid ∷ kids) text n deep few k w meant c = full_canon names is_root d name xs kid kids n deep few k w c

-- ---- content

pub no_content : (names : Prefixes) (is_root : Bool) (d : ℕ) → CanonContent names is_root d [] 0
no_content names is_root d = record { content = last []; fits = plain_run [] refl; kids_are = refl; words = refl; counted = omega arith; printed_safe = refl; same = refl }

pub one_child : (names : Prefixes) (is_root : Bool) (d : ℕ) (kid : Element) (kids : List Element) (n m : ℕ) → Canon names is_root d kid n → CanonContent names is_root d kids m → CanonContent names is_root d (kid ∷ kids) (n + m)
unfolding lib.Utf8.encode
one_child names is_root d kid kids n m k c = record {
  content = child [] k.markup c.content;
  fits = (plain_run [] refl, k.fits, c.fits);
  kids_are = ap (λ (e : Element). e ∷ children c.content) k.means ∙ ap (λ (es : List Element). kid ∷ es) c.kids_are;
  words = c.words;
  counted = omega (arith, k.counted, c.counted);
  printed_safe = all_join safe (print k.markup) (print_content c.content) k.printed_safe c.printed_safe;
  same = ap (λ (x : List ℕ). x ++ flat_map (element_text names is_root) kids) k.same ∙ ap (λ (x : List ℕ). 60 ∷ (encode_utf8_all (print k.markup) ++ x)) c.same ∙ ap (λ (x : List ℕ). 60 ∷ x) (sym (encodes-append (print k.markup) (print_content c.content)));
}

written_head : (names : Prefixes) (is_root : Bool) (h : Head) (kids : List Element) → ArePrefixes names → Facts h → Covered names h.name h.attributes kids → WroteHead names is_root h.name h.attributes
written_head names is_root h kids are f c = head_written names is_root h.name h.attributes are c.own f.local c.attributes f.attributes f.named_once

mutual
  pub canon : (names : Prefixes) (m : Markup) (is_root : Bool) (d : ℕ) (scope : List Bound) → ArePrefixes names → IsMarkup m d scope → AllStand scope → AreAllowed (print m) → covers names (meaning m) ≡ true → Canon names is_root d (meaning m) (count m)
  canon names (leaf text h) is_root d scope are is all allowed covering =
      let f = head_facts scope text h all is.2 allowed in
      let c = covered names h.name h.attributes [] [] covering in
      leaf_canon names is_root d h.name h.attributes 1 is.0 (omega arith) is.3 (written_head names is_root h [] are f c)
  canon names (whole text h inside gap) is_root d scope are is all allowed covering =
      let a = all_both is_allowed text (print_content inside ++ 60 ∷ 47 ∷ (spell h.spelling ++ (gap ++ 62 ∷ []))) allowed in
      let b = all_both is_allowed (print_content inside) (60 ∷ 47 ∷ (spell h.spelling ++ (gap ++ 62 ∷ []))) a.1 in
      let f = head_facts scope text h all is.2 a.0 in
      let c = covered names h.name h.attributes (children inside) (text_if (children inside) (content_text inside)) covering in
      whole_canon names is_root d h.name h.attributes (children inside) (content_text inside) (counts inside) is.0 is.3 (known names h.name are c.own f.local) (written_head names is_root h (children inside) are f c)
      (content_meant inside (pred d) h.scope is.4 b.0) (canons names inside (pred d) h.scope are is.4 f.scope b.0 c.children)

  pub canons : (names : Prefixes) (c : Content) (d : ℕ) (scope : List Bound) → ArePrefixes names → IsContent c d scope → AllStand scope → AreAllowed (print_content c) → list_all (covers names) (children c) ≡ true → CanonContent names false d (children c) (counts c)
  canons names (last run) d scope are is all allowed covering = no_content names false d
  canons names (piece run p c) d scope are is all allowed covering =
      let a = all_both is_allowed run (print_piece p ++ print_content c) allowed in
      let b = all_both is_allowed (print_piece p) (print_content c) a.1 in
      canons names c d scope are is.2 all b.1 covering
  canons names (child run m c) d scope are is all allowed covering =
      let a = all_both is_allowed run (60 ∷ (print m ++ print_content c)) allowed in
      let b = all_both is_allowed (print m) (print_content c) a.1 in
      let k = both (covers names (meaning m)) (list_all (covers names) (children c)) covering in
      one_child names false d (meaning m) (children c) (count m) (counts c) (canon names m false d scope are is.1 all b.0 k.0) (canons names c d scope are is.2 all b.1 k.1)
