-- The canonical text of a tree is read back as that tree.
use Rattle.std.proofs.Common.{◌≡◌, ℕ, ◌≤◌, true, false, List, [], ◌∷◌, ◌++◌, refl, sym, ap, subst, ◌∙◌, arith, inl}
use Rattle.std.specs.Prelude.{encode_utf8_all}
use Rattle.std.specs.List.{list_all}
use Rattle.std.specs.Str.{chars}
use Rattle.std.proofs.lemmas.List.{append-nil}
use Rattle.std.proofs.lemmas.Str.{chars-encodes}
use Rattle.doc_tree.specs.Tree.{document_text}
use Rattle.doc_tree.specs.declared.tree.Element.{Element}
use Rattle.doc_tree.specs.declared.tree.Prefixes.{Prefixes}
use Rattle.doc_tree.specs.Characters.{is_allowed}
use Rattle.doc_read.specs.Scope.{xml_scope}
use Rattle.doc_read.specs.Document.{line_feeds, unmarked}
use Rattle.doc_read.specs.Grammar.{Markup, meaning, print, count, spaces, print_misc, IsMarkup, SpellsText, Spells}
use Rattle.doc_laws.specs.InDocument.{IsInDocument}
use Rattle.doc_laws.specs.RoundTrip.{ArePrefixes, Covers, covers}
use Rattle.doc_laws.proofs.Encoding.{IsSafe, all_both, are_allowed, are_scalars, lines_same}
use Rattle.doc_laws.proofs.Facts.{AreAllowed, text_allowed}
use Rattle.doc_laws.proofs.Sizes.{Fits, markup_fits}
use Rattle.doc_laws.proofs.Canonical.{Canon, canon}
use Rattle.doc_laws.proofs.Nodes.{more}

markup_text : (cs : List ℕ) (e : Element) (s : SpellsText cs e) → AreAllowed cs → AreAllowed (print s.markup)
markup_text cs e s allowed =
    let tail : List ℕ = print s.markup ++ print_misc s.after in
    let a = all_both is_allowed s.opening (print_misc s.before ++ 60 ∷ tail) (subst (λ (x : List ℕ). AreAllowed x) s.whole allowed) in
    let b = all_both is_allowed (print_misc s.before) (60 ∷ tail) a.1 in
    (all_both is_allowed (print s.markup) (print_misc s.after) b.1).0

-- bytes that are the text of markup which means this tree
pub spelled_by : (bytes : List ℕ) (e : Element) (m : Markup) → IsMarkup m 32 xml_scope → meaning m ≡ e → count m ≤ 100000 → IsSafe (print m) → bytes ≡ 60 ∷ encode_utf8_all (print m) → Spells bytes e
unfolding lib.Utf8.encode
spelled_by bytes e m fits means counted safely is =
    let cs : List ℕ = 60 ∷ print m in
    let is_safe : IsSafe cs = safely in
    let encoded : encode_utf8_all cs ≡ bytes = sym is in
    let scalars_are = are_scalars cs (are_allowed cs is_safe) in
    let same : chars bytes ≡ cs = ap chars (sym encoded) ∙ chars-encodes cs scalars_are in
    let lines : line_feeds false (unmarked (chars bytes)) ≡ cs = ap (λ (x : List ℕ). line_feeds false (unmarked x)) same ∙ lines_same cs is_safe in
    let text : SpellsText cs e = record {
      opening = [];
      before = spaces [];
      markup = m;
      after = spaces [];
      opening_fits = inl refl;
      before_fits = refl;
      fits = fits;
      after_fits = refl;
      few = counted;
      means = means;
      whole = ap (λ (x : List ℕ). 60 ∷ x) (sym (append-nil (print m)));
    } in
    record {
      text = (cs, (scalars_are, encoded));
      allowed = ap (list_all is_allowed) same ∙ are_allowed cs is_safe;
      spells = subst (λ (x : List ℕ). SpellsText x e) (sym lines) text;
    }

pub canon_spelled : (names : Prefixes) (e : Element) → Canon names true 32 e 100000 → Spells (document_text names e) e
canon_spelled names e c = spelled_by (document_text names e) e c.markup c.fits c.means c.counted c.printed_safe c.same

pub round_trip : (names : Prefixes) (e : Element) (bytes : List ℕ) → ArePrefixes names → Covers names e → Spells bytes e → Spells (document_text names e) e
round_trip names e bytes are covering s =
    let t = s.spells in
    let allowed = markup_text (line_feeds false (unmarked (chars bytes))) e t (text_allowed (chars bytes) s.allowed) in
    let covering' : covers names (meaning t.markup) ≡ true = ap (covers names) t.means ∙ covering in
    let c = canon names t.markup true 32 xml_scope are t.fits refl allowed covering' in
    canon_spelled names e (more names true 32 32 (count t.markup) 100000 e (omega arith) t.few (subst (λ (x : Element). Canon names true 32 x (count t.markup)) t.means c))

-- what some text spells may stand in a document
pub in_document : (bytes : List ℕ) (e : Element) → Spells bytes e → IsInDocument e
in_document bytes e s =
    let t = s.spells in
    let allowed = markup_text (line_feeds false (unmarked (chars bytes))) e t (text_allowed (chars bytes) s.allowed) in
    let f = subst (λ (x : Element). Fits 32 (count t.markup) x) t.means (markup_fits t.markup 32 xml_scope t.fits refl allowed) in
    record { texts = f.texts; deep = f.deep; many = omega (arith, f.many, t.few) }
