-- Canonical texts of trees, one behind the other in an element without attributes, spell that element with those trees in it.
use Rattle.std.proofs.Common.{◌≡◌, ℕ, ◌<◌, true, false, List, [], ◌∷◌, ◌++◌, Ok, refl, sym, ap, ◌∙◌, arith}
use Rattle.std.specs.Prelude.{encode_utf8_all}
use Rattle.std.specs.List.{flat_map}
use Rattle.std.proofs.lemmas.List.{append-nil}
use Rattle.wfs_ends.specs.Read.{each}
use Rattle.doc_tree.specs.Tree.{document_text}
use Rattle.doc_tree.specs.declared.tree.QName.{QName}
use Rattle.doc_tree.specs.declared.tree.Element.{Element}
use Rattle.doc_tree.specs.declared.tree.Prefixes.{Prefixes}
use Rattle.doc_read.specs.Lex.{Spelling}
use Rattle.doc_read.specs.Scope.{xml_scope, has_twins, has_unknown, newest, element_name}
use Rattle.doc_read.specs.Element.{Head, tree}
use Rattle.doc_read.specs.Grammar.{IsName, tag_end, SpellsTag, SpellsHead, Markup, whole, print_content, content_text, meaning, children, text_if, IsMarkup, Spells}
use Rattle.doc_laws.proofs.Encoding.{name_same, name_safe}
use Rattle.doc_laws.proofs.Canonical.{CanonContent, frame, whole_safe, unmixed_if}
use Rattle.doc_laws.proofs.Whole.{spelled_by}

-- an element of this name, without attributes, around a text
abbrev pub around : List ℕ → List ℕ → List ℕ
around local text = 60 ∷ (local ++ 62 ∷ (text ++ 60 ∷ 47 ∷ (local ++ 62 ∷ [])))

abbrev named : List ℕ → QName
named local = record { space = []; local = local }

abbrev spelling : List ℕ → Spelling
spelling local = record { prefix = []; local = local }

abbrev head : List ℕ → Head
head local = record { spelling = spelling local; name = named local; attributes = []; is_empty = false; scope = xml_scope }

head_spelled : (local : List ℕ) → IsName local → SpellsHead xml_scope (local ++ tag_end false) (head local)
unfolding each has_twins has_unknown element_name newest
head_spelled local is =
    let tag : SpellsTag (local ++ tag_end false) (record { name = spelling local; attributes = []; is_empty = false }) = record { raws = []; gap = []; name = record { prefix = tt; local = is }; attributes = refl; blank = refl; whole = ap (λ (x : List ℕ). x ++ tag_end false) (sym (append-nil (local ++ []) ∙ append-nil local)) } in
    record {
      raws = [];
      own = [];
      tag = tag;
      spelled_once = refl;
      declared = refl;
      inner = refl;
      attributes = refl;
      named_once = refl;
      known = refl;
      name = ap (λ (l : List ℕ). Ok (named l)) (name_same local is);
    }

-- the trees that stand in it
pub standing : (names : Prefixes) (local : List ℕ) (es : List Element) (n : ℕ) → IsName local → CanonContent names true 31 es n → n < 100000
    → Spells (around local (flat_map (document_text names) es)) (tree (named local) [] es [])
standing names local es n is c few =
    let m : Markup = whole (local ++ tag_end false) (head local) c.content [] in
    let fits : IsMarkup m 32 xml_scope = (omega arith, refl, head_spelled local is, omega arith, c.fits, refl, unmixed_if (children c.content) (content_text c.content) c.words) in
    let text : text_if (children c.content) (content_text c.content) ≡ [] = nothing (children c.content) (content_text c.content) c.words in
    let means : meaning m ≡ tree (named local) [] es [] = ap (λ (t : List ℕ). tree (named local) [] (children c.content) t) text ∙ ap (λ (es : List Element). tree (named local) [] es []) c.kids_are in
    let same : encode_utf8_all local ≡ local = name_same local is in
    let inside : around local (flat_map (document_text names) es) ≡ (60 ∷ encode_utf8_all local) ++ ((62 ∷ encode_utf8_all (print_content c.content)) ++ (60 ∷ 47 ∷ (local ++ 62 ∷ []))) =
    ap (around local) c.same ∙ ap (λ (l : List ℕ). 60 ∷ (l ++ 62 ∷ (encode_utf8_all (print_content c.content) ++ 60 ∷ 47 ∷ (local ++ 62 ∷ [])))) (sym same) in
    spelled_by (around local (flat_map (document_text names) es)) (tree (named local) [] es []) m fits means (omega (arith, c.counted, few))
    (whole_safe local (print_content c.content) local (name_safe local is) c.printed_safe (name_safe local is)) (inside ∙ frame local (print_content c.content) local same)
  where
    nothing : (kids : List Element) (text : List ℕ) → text ≡ [] → text_if kids text ≡ []
    nothing [] text none = none
    nothing (k ∷ kids) text none = refl
