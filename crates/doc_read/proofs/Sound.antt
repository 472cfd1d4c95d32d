-- An element that is read is spelled so.
use Rattle.std.proofs.Common.{◌≡◌, ℕ, zero, suc, ◌+◌, ◌≤◌, ◌<◌, Bool, true, false, cond, ◌&&◌, eqb, ltb, leb, List, [], ◌∷◌, ◌++◌, length, Result, Ok, Err, refl, sym, ap, subst, ◌∙◌, append_assoc, arith, inl, inr}
use Rattle.std.specs.List.{list_all}
use Rattle.std.specs.Prelude.{encode_utf8, encode_utf8_all}
use Rattle.std.proofs.lemmas.Bool.{eqb-true, ltb-true, leb-true}
use Rattle.std.proofs.lemmas.List.{append-nil}
use Rattle.wfs_ends.specs.Read.{◌>>=◌, until, unless}
use Rattle.wfs_ends.proofs.Turns.{bind_ok, if_ok, chosen}
use Rattle.doc_tree.specs.declared.tree.QName.{QName}
use Rattle.doc_tree.specs.declared.tree.Attribute.{Attribute}
use Rattle.doc_tree.specs.declared.tree.Element.{Element}
use Rattle.doc_read.specs.declared.fault.DocFault.{DocFault}
use Rattle.doc_read.specs.declared.fault.DocFault.TheVariants.{Malformed, TooDeep, TooMany}
use Rattle.doc_read.specs.declared.lex.Class.TheVariants.{Space, Text}
use Rattle.doc_read.specs.declared.word.Word.TheVariants as word
use Rattle.doc_read.specs.Read.{Reads}
use Rattle.doc_read.specs.Chars.{holds, starts, split_front, letters, word_at, begins, contains, split_word}
use Rattle.doc_read.specs.Lex.{reference_at}
use Rattle.doc_read.specs.declared.scope.Bound.{Bound}
use Rattle.doc_read.specs.Element.{Head, Inside, ReadsElement, head_at, admitted, level_at, element_at, turn_at, content_at, run_at, remark_at, marked_at, closed_at, markup_at, made, tree, filled}
use Rattle.doc_read.specs.Grammar.{print_reference, Piece, comment, section, reference, print_piece, piece_text, IsPiece, Markup, leaf, whole, Content, last, piece, child, print, print_content, content_text, meaning, children, count, counts, text_if, IsMarkup, IsContent, IsRun, IsUnmixed, SpellsHead}
use Rattle.doc_read.proofs.Fronts.{both}
use Rattle.doc_read.proofs.Marks.{done, word_takes, split_takes_word}
use Rattle.doc_read.proofs.Takes.{is_it, unless_ok, split_takes, closed_takes, head_takes, reference_takes, remark_takes}
use Rattle.doc_read.proofs.Complete.{at}

-- ---- pieces

pub record ReadPiece (cs text rest : List ℕ) : Type 0 where
  pub piece : Piece
  pub fits : IsPiece piece
  pub means : piece_text piece ≡ encode_utf8_all text
  pub printed : 60 ∷ 33 ∷ cs ≡ print_piece piece ++ rest

pub marked_takes : (cs text rest : List ℕ) → marked_at cs ≡ Ok (text, rest) → ReadPiece cs text rest
unfolding marked_at
marked_takes cs text rest e =
    let commented : Reads (List ℕ) = remark_at cs >>= λ after. Ok ([], after) in
    elim (chosen (begins word.Section cs) (word_at word.Section cs >>= λ after. split_word word.SectionEnd after) commented (Ok (text, rest)) e) [
      | inl h ↦
          let a = bind_ok (word_at word.Section cs) (λ after. split_word word.SectionEnd after) (text, rest) h.1 in
          let k = split_takes_word word.SectionEnd [] a.0 text rest a.2 in
          record {
            piece = section k.0;
            fits = k.2;
            means = ap encode_utf8_all (sym k.1);
            printed = ap (λ (x : List ℕ). 60 ∷ 33 ∷ x) (word_takes (letters word.Section) cs a.0 a.1 ∙ ap (λ (x : List ℕ). letters word.Section ++ x) k.3) ∙ ap (λ (x : List ℕ). 60 ∷ 33 ∷ (letters word.Section ++ x)) (sym (append_assoc k.0 (letters word.SectionEnd) rest));
          }
      | inr h ↦
          let a = bind_ok (remark_at cs) (λ after. Ok ([], after)) (text, rest) h.1 in
          let is = is_it ([], a.0) (text, rest) a.2 in
          let k = remark_takes cs a.0 a.1 in
          subst (λ (p : List ℕ × List ℕ). ReadPiece cs p.0 p.1) is (record {
            piece = comment k.0;
            fits = k.1;
            means = refl;
            printed = ap (λ (x : List ℕ). 60 ∷ 33 ∷ x) k.2 ∙ ap (λ (x : List ℕ). 60 ∷ 33 ∷ 45 ∷ 45 ∷ x) (sym (append_assoc k.0 (letters word.CommentEnd) a.0));
          })
    ]

-- ---- content, with a run in front

abbrev first_run : Content → List ℕ
first_run (last r) = r
first_run (piece r p c) = r
first_run (child r m c) = r

abbrev with_run : List ℕ → Content → Content
with_run run (last r) = last run
with_run run (piece r p c) = piece run p c
with_run run (child r m c) = child run m c

-- where the text doesn't go on with a run, the first run is empty
run_is_over : (c : ℕ) (cs : List ℕ) → IsRun (c ∷ cs) → holds Text c ≡ false → ⊥
run_is_over c cs is stops = clash (holds Text c) (both (holds Text c) (list_all (holds Text) cs) is.each).0 stops
  where
    clash : (b : Bool) → b ≡ true → b ≡ false → ⊥
    clash true e f = absurd cc
    clash false e f = absurd cc

first_run_is : (c : Content) (d : ℕ) (scope : List Bound) (more : List ℕ) → IsContent c d scope → starts Text (print_content c ++ more) ≡ false → first_run c ≡ []
first_run_is (last []) d scope more fits stops = refl
first_run_is (last (x ∷ xs)) d scope more fits stops = absurd (run_is_over x xs fits stops)
first_run_is (piece [] p c) d scope more fits stops = refl
first_run_is (piece (x ∷ xs) p c) d scope more fits stops = absurd (run_is_over x xs fits.0 stops)
first_run_is (child [] m c) d scope more fits stops = refl
first_run_is (child (x ∷ xs) m c) d scope more fits stops = absurd (run_is_over x xs fits.0 stops)

with_run_fits : (run : List ℕ) (c : Content) (d : ℕ) (scope : List Bound) → IsRun run → IsContent c d scope → IsContent (with_run run c) d scope
with_run_fits run (last r) d scope is fits = is
with_run_fits run (piece r p c) d scope is fits = (is, fits.1, fits.2)
with_run_fits run (child r m c) d scope is fits = (is, fits.1, fits.2)

with_run_prints : (run : List ℕ) (c : Content) → first_run c ≡ [] → print_content (with_run run c) ≡ run ++ print_content c
with_run_prints run (last r) none = rw none (sym (append-nil run))
with_run_prints run (piece r p c) none = rw none refl
with_run_prints run (child r m c) none = rw none refl

with_run_text : (run : List ℕ) (c : Content) → first_run c ≡ [] → content_text (with_run run c) ≡ encode_utf8_all run ++ content_text c
with_run_text run (last r) none = rw none (sym (append-nil (encode_utf8_all run)))
with_run_text run (piece r p c) none = rw none refl
with_run_text run (child r m c) none = rw none refl

with_run_children : (run : List ℕ) (c : Content) → children (with_run run c) ≡ children c
with_run_children run (last r) = refl
with_run_children run (piece r p c) = refl
with_run_children run (child r m c) = refl

with_run_counts : (run : List ℕ) (c : Content) → counts (with_run run c) ≡ counts c
with_run_counts run (last r) = refl
with_run_counts run (piece r p c) = refl
with_run_counts run (child r m c) = refl

-- ---- what was read

pub record ReadContent (d : ℕ) (scope : List Bound) (s t : Inside) : Type 0 where
  pub content : Content
  pub fits : IsContent content d scope
  pub kids : t.children ≡ s.children ++ children content
  pub words : t.text ≡ s.text ++ content_text content
  pub seen : t.seen ≡ s.seen + counts content
  pub few : t.seen ≤ 100000
  pub printed : s.rest ≡ print_content content ++ 60 ∷ 47 ∷ t.rest

pub record ReadMarkup (d : ℕ) (scope : List Bound) (seen : ℕ) (cs : List ℕ) (t : Element) (seen' : ℕ) (rest : List ℕ) : Type 0 where
  pub markup : Markup
  pub fits : IsMarkup markup d scope
  pub means : meaning markup ≡ t
  pub counted : seen' ≡ seen + count markup
  pub few : seen' ≤ 100000
  pub printed : cs ≡ print markup ++ rest

abbrev pub Child : ℕ → List Bound → Type 0
Child d scope = (seen : ℕ) (cs : List ℕ) (t : Element) (seen' : ℕ) (rest : List ℕ) → element_at d scope seen cs ≡ Ok (t, seen', rest) → ReadMarkup d scope seen cs t seen' rest

no_run : IsRun []
unfolding contains
no_run = record { each = refl; unclosed = refl }

content_ended : (d : ℕ) (scope : List Bound) (kids : List Element) (text : List ℕ) (seen : ℕ) (cs : List ℕ) (t : Inside) → seen ≤ 100000 → at kids text seen cs ≡ t → ReadContent d scope (at kids text seen (60 ∷ 47 ∷ cs)) t
content_ended d scope kids text seen cs t few is =
    subst (λ (t : Inside). ReadContent d scope (at kids text seen (60 ∷ 47 ∷ cs)) t) is
    (record { content = last []; fits = no_run; kids = sym (append-nil kids); words = sym (append-nil text); seen = omega arith; few = few; printed = refl })

ran : (d : ℕ) (scope : List Bound) (kids : List Element) (text : List ℕ) (seen : ℕ) (run more : List ℕ) (t : Inside) → IsRun run → starts Text more ≡ false → ReadContent d scope (at kids (text ++ encode_utf8_all run) seen more) t → ReadContent d scope (at kids text seen (run ++ more)) t
ran d scope kids text seen run more t is over k =
    let none = first_run_is k.content d scope (60 ∷ 47 ∷ t.rest) k.fits (ap (starts Text) (sym k.printed) ∙ over) in
    record {
      content = with_run run k.content;
      fits = with_run_fits run k.content d scope is k.fits;
      kids = k.kids ∙ ap (λ (x : List Element). kids ++ x) (sym (with_run_children run k.content));
      words = k.words ∙ append_assoc text (encode_utf8_all run) (content_text k.content) ∙ ap (λ (x : List ℕ). text ++ x) (sym (with_run_text run k.content none));
      seen = k.seen ∙ ap (λ (x : ℕ). seen + x) (sym (with_run_counts run k.content));
      few = k.few;
      printed = ap (λ (x : List ℕ). run ++ x) k.printed ∙ sym (append_assoc run (print_content k.content) (60 ∷ 47 ∷ t.rest)) ∙ ap (λ (x : List ℕ). x ++ 60 ∷ 47 ∷ t.rest) (sym (with_run_prints run k.content none));
    }

pieced : (d : ℕ) (scope : List Bound) (kids : List Element) (text : List ℕ) (seen : ℕ) (p : Piece) (words : List ℕ) (cs more : List ℕ) (t : Inside) → IsPiece p → piece_text p ≡ words → cs ≡ print_piece p ++ more → IsRun [] → ReadContent d scope (at kids (text ++ words) seen more) t → ReadContent d scope (at kids text seen cs) t
pieced d scope kids text seen p words cs more t is means printed nothing k = record {
  content = piece [] p k.content;
  fits = (nothing, is, k.fits);
  kids = k.kids;
  words = k.words ∙ append_assoc text words (content_text k.content) ∙ ap (λ (x : List ℕ). text ++ (x ++ content_text k.content)) (sym means);
  seen = k.seen;
  few = k.few;
  printed = printed ∙ ap (λ (x : List ℕ). print_piece p ++ x) k.printed ∙ sym (append_assoc (print_piece p) (print_content k.content) (60 ∷ 47 ∷ t.rest));
}

grown : (d : ℕ) (scope : List Bound) (kids : List Element) (text : List ℕ) (seen : ℕ) (cs : List ℕ) (tree : Element) (seen' : ℕ) (more : List ℕ) (t : Inside) → IsRun [] → ReadMarkup d scope seen cs tree seen' more → ReadContent d scope (at (kids ++ tree ∷ []) text seen' more) t → ReadContent d scope (at kids text seen (60 ∷ cs)) t
grown d scope kids text seen cs tree seen' more t nothing m k = record {
  content = child [] m.markup k.content;
  fits = (nothing, m.fits, k.fits);
  kids = k.kids ∙ append_assoc kids (tree ∷ []) (children k.content) ∙ ap (λ (x : Element). kids ++ x ∷ children k.content) (sym m.means);
  words = k.words;
  seen = omega (arith, k.seen, m.counted);
  few = k.few;
  printed = ap (λ (x : List ℕ). 60 ∷ x) (m.printed ∙ ap (λ (x : List ℕ). print m.markup ++ x) k.printed) ∙ simp append_assoc;
}

pub run_takes : (cs run rest : List ℕ) → run_at cs ≡ Ok (run, rest) → IsRun run × (cs ≡ run ++ rest) × (starts Text rest ≡ false)
unfolding run_at
run_takes cs run rest e =
    let a = bind_ok (unless (contains word.SectionEnd (split_front Text cs).0) Malformed) (λ unclosed. Ok (split_front Text cs)) (run, rest) e in
    let is = is_it (split_front Text cs) (run, rest) a.2 in
    let p = split_takes Text cs run rest is in
    let unclosed = unless_ok (contains word.SectionEnd (split_front Text cs).0) Malformed a.0 a.1 in
    (record { each = p.1; unclosed = ap (λ (q : List ℕ × List ℕ). contains word.SectionEnd q.0) (sym is) ∙ unclosed }, p.0, p.2)

-- one turn, and what comes after it
after_turn : (d : ℕ) (scope : List Bound) → Child d scope → (kids : List Element) (text : List ℕ) (seen : ℕ) (cs : List ℕ) (b : Bool) (s t : Inside) → seen ≤ 100000 → turn_at (element_at d scope) (at kids text seen cs) ≡ Ok (b, s)
    → (b ≡ true → s ≡ t) → (b ≡ false → s.seen ≤ 100000 → ReadContent d scope s t) → ReadContent d scope (at kids text seen cs) t
unfolding turn_at
after_turn d scope child_law kids text seen [] b s t few e stops again = absurd cc
after_turn d scope child_law kids text seen (c ∷ cs) b s t few e stops again =
    elim (chosen (eqb c 60) (markup cs) (cond (eqb c 38) referring words) (Ok (b, s)) e) [
      | inl h ↦ subst (λ (k : ℕ). ReadContent d scope (at kids text seen (k ∷ cs)) t) (sym (eqb-true c 60 h.0)) (marked cs h.1)
      | inr g ↦ elim (chosen (eqb c 38) referring words (Ok (b, s)) g.1) [
        | inl h ↦
            let r = bind_ok (reference_at cs) (λ x. Ok (false, at kids (text ++ encode_utf8 x.0) seen x.1)) (b, s) h.1 in
            let k = reference_takes cs r.0.0 r.0.1 r.1 in
            let printed : c ∷ cs ≡ print_piece (reference k.reference r.0.0) ++ r.0.1 = ap (λ (n : ℕ). n ∷ cs) (eqb-true c 38 h.0) ∙ ap (λ (ys : List ℕ). 38 ∷ ys) (k.printed ∙ sym (append_assoc (print_reference k.reference) (59 ∷ []) r.0.1)) in
            pieced d scope kids text seen (reference k.reference r.0.0) (encode_utf8 r.0.0) (c ∷ cs) r.0.1 t k.fits refl printed no_run (goes_on (at kids (text ++ encode_utf8 r.0.0) seen r.0.1) few r.2)
        | inr h ↦
            let r = bind_ok (run_at (c ∷ cs)) (λ x. Ok (false, at kids (text ++ encode_utf8_all x.0) seen x.1)) (b, s) h.1 in
            let p = run_takes (c ∷ cs) r.0.0 r.0.1 r.1 in
            subst (λ (x : List ℕ). ReadContent d scope (at kids text seen x) t) (sym p.1) (ran d scope kids text seen r.0.0 r.0.1 t p.0 p.2 (goes_on (at kids (text ++ encode_utf8_all r.0.0) seen r.0.1) few r.2))
      ]
    ]
  where
    referring : Result (Bool × Inside) DocFault
    referring = reference_at cs >>= λ x. Ok (false, at kids (text ++ encode_utf8 x.0) seen x.1)

    words : Result (Bool × Inside) DocFault
    words = run_at (c ∷ cs) >>= λ x. Ok (false, at kids (text ++ encode_utf8_all x.0) seen x.1)

    markup : List ℕ → Result (Bool × Inside) DocFault
    markup cs = markup_at (element_at d scope) (at kids text seen (c ∷ cs)) cs

    goes_on : (next : Inside) → next.seen ≤ 100000 → done {A = Bool × Inside} (false, next) ≡ done (b, s) → ReadContent d scope next t
    goes_on next few' e =
        let is = is_it (false, next) (b, s) e in
        let more = again (sym (ap (λ (p : Bool × Inside). p.0) is)) (subst (λ (p : Bool × Inside). p.1.seen ≤ 100000) is few') in
        subst (λ (p : Inside). ReadContent d scope p t) (sym (ap (λ (p : Bool × Inside). p.1) is)) more

    marked : (cs : List ℕ) → markup_at (element_at d scope) (at kids text seen (c ∷ cs)) cs ≡ Ok (b, s) → ReadContent d scope (at kids text seen (60 ∷ cs)) t
    marked [] e = absurd cc
    marked (x ∷ xs) e =
        let child_read : Result (Bool × Inside) DocFault = element_at d scope seen (x ∷ xs) >>= λ r. Ok (false, at (kids ++ r.0 ∷ []) text r.1 r.2) in
        let marked_read : Result (Bool × Inside) DocFault = marked_at xs >>= λ r. Ok (false, at kids (text ++ encode_utf8_all r.0) seen r.1) in
        elim (chosen (eqb x 47) (done (true, at kids text seen xs)) (cond (eqb x 33) marked_read child_read) (Ok (b, s)) e) [
          | inl h ↦
              let is = is_it (true, at kids text seen xs) (b, s) h.1 in
              let e' : at kids text seen xs ≡ t = ap (λ (p : Bool × Inside). p.1) is ∙ stops (sym (ap (λ (p : Bool × Inside). p.0) is)) in
              subst (λ (k : ℕ). ReadContent d scope (at kids text seen (60 ∷ k ∷ xs)) t) (sym (eqb-true x 47 h.0)) (content_ended d scope kids text seen xs t few e')
          | inr h ↦
              elim (chosen (eqb x 33) marked_read child_read (Ok (b, s)) h.1) [
                | inl g ↦
                    let r = bind_ok (marked_at xs) (λ r. Ok (false, at kids (text ++ encode_utf8_all r.0) seen r.1)) (b, s) g.1 in
                    let k = marked_takes xs r.0.0 r.0.1 r.1 in
                    let printed : 60 ∷ x ∷ xs ≡ print_piece k.piece ++ r.0.1 = ap (λ (n : ℕ). 60 ∷ n ∷ xs) (eqb-true x 33 g.0) ∙ k.printed in
                    pieced d scope kids text seen k.piece (encode_utf8_all r.0.0) (60 ∷ x ∷ xs) r.0.1 t k.fits k.means printed no_run (goes_on (at kids (text ++ encode_utf8_all r.0.0) seen r.0.1) few r.2)
                | inr g ↦
                    let r = bind_ok (element_at d scope seen (x ∷ xs)) (λ r. Ok (false, at (kids ++ r.0 ∷ []) text r.1 r.2)) (b, s) g.1 in
                    let m = child_law seen (x ∷ xs) r.0.0 r.0.1 r.0.2 r.1 in
                    grown d scope kids text seen (x ∷ xs) r.0.0 r.0.1 r.0.2 t no_run m (goes_on (at (kids ++ r.0.0 ∷ []) text r.0.1 r.0.2) m.few r.2)
              ]
        ]

content_sound : (d : ℕ) (scope : List Bound) → Child d scope → (n : ℕ) (s t : Inside) → s.seen ≤ 100000 → until Malformed (turn_at (element_at d scope)) n s ≡ Ok t → ReadContent d scope s t
unfolding until
content_sound d scope child_law zero s t few e = absurd cc
content_sound d scope child_law (suc n) s t few e =
    let b = bind_ok (turn_at (element_at d scope) s) (λ r. cond r.0 (Ok r.1) (until Malformed (turn_at (element_at d scope)) n r.1)) t e in
    after_turn d scope child_law s.children s.text s.seen s.rest b.0.0 b.0.1 t few b.1
    (λ is. is_it b.0.1 t (subst (λ (k : Bool). cond k (Ok b.0.1) (until Malformed (turn_at (element_at d scope)) n b.0.1) ≡ Ok t) is b.2))
    (λ is few'. content_sound d scope child_law n b.0.1 t few' (subst (λ (k : Bool). cond k (Ok b.0.1) (until Malformed (turn_at (element_at d scope)) n b.0.1) ≡ Ok t) is b.2))

-- ---- elements

made_takes : (name : QName) (attributes : List Attribute) (kids : List Element) (text : List ℕ) (t : Element) → made name attributes kids text ≡ Ok t → IsUnmixed kids text × (t ≡ tree name attributes kids (text_if kids text))
unfolding made
made_takes name attributes [] text t e = (tt, sym (is_it (tree name attributes [] text) t e))
made_takes name attributes (k ∷ kids) text t e =
    elim (chosen (eqb (suc (length kids)) 0) (done (tree name attributes (k ∷ kids) text)) (cond (list_all (holds Space) text) (done (tree name attributes (k ∷ kids) [])) (Err Malformed)) (Ok t) e) [
      | inl h ↦ absurd (omega (arith, eqb-true (suc (length kids)) 0 h.0))
      | inr h ↦
          let g = if_ok (list_all (holds Space) text) (done (tree name attributes (k ∷ kids) [])) Malformed t h.1 in
          (g.0, sym (is_it (tree name attributes (k ∷ kids) []) t g.1))
    ]

admitted_takes : (seen attributes : ℕ) (x : Unit {0}) → admitted seen attributes ≡ Ok x → (seen < 100000) × (attributes ≤ 64)
unfolding admitted
admitted_takes seen attributes x e =
    let g = if_ok (ltb seen 100000 && leb attributes 64) (done tt) TooMany x e in
    let p = both (ltb seen 100000) (leb attributes 64) g.0 in
    (ltb-true seen 100000 p.0, leb-true attributes 64 p.1)

level_sound : (d : ℕ) (scope : List Bound) (head : List ℕ) (h : Head) (seen : ℕ) (rest' : List ℕ) (t : Element) (seen' : ℕ) (rest : List ℕ) → Child d h.scope → SpellsHead scope head h → level_at (element_at d) seen (h, rest') ≡ Ok (t, seen', rest) → ReadMarkup (suc d) scope seen (head ++ rest') t seen' rest
unfolding level_at
level_sound d scope head h seen rest' t seen' rest child_law spelled e =
    let alone : Element = tree h.name h.attributes [] [] in
    let inside_read : ReadsElement = filled h (content_at (element_at d h.scope) (seen + 1) rest') in
    let g = bind_ok (admitted seen (length h.attributes)) (λ few. cond h.is_empty (done (alone, seen + 1, rest')) inside_read) (t, seen', rest) e in
    let bounds = admitted_takes seen (length h.attributes) g.0 g.1 in
    let lt : seen < 100000 = bounds.0 in
    elim (chosen h.is_empty (done (alone, seen + 1, rest')) inside_read (Ok (t, seen', rest)) g.2) [
      | inl k ↦
          subst (λ (p : Element × ℕ × List ℕ). ReadMarkup (suc d) scope seen (head ++ rest') p.0 p.1 p.2) (is_it (alone, seen + 1, rest') (t, seen', rest) k.1)
          (record { markup = leaf head h; fits = (omega arith, k.0, spelled, bounds.1); means = refl; counted = refl; few = omega arith; printed = refl })
      | inr k ↦
          let a = bind_ok (content_at (element_at d h.scope) (seen + 1) rest') (λ inside. closed_at h.spelling inside.rest >>= λ after. made h.name h.attributes inside.children inside.text >>= λ tree. Ok (tree, inside.seen, after)) (t, seen', rest) k.1 in
          let b = bind_ok (closed_at h.spelling a.0.rest) (λ after. made h.name h.attributes a.0.children a.0.text >>= λ tree. Ok (tree, a.0.seen, after)) (t, seen', rest) a.2 in
          let c = bind_ok (made h.name h.attributes a.0.children a.0.text) (λ tree. Ok (tree, a.0.seen, b.0)) (t, seen', rest) b.2 in
          let inside = content_sound d h.scope child_law (length rest') (at [] [] (seen + 1) rest') a.0 (omega arith) (unfold content_at in a.1) in
          let closed = closed_takes h.spelling a.0.rest b.0 b.1 in
          let m = made_takes h.name h.attributes a.0.children a.0.text c.0 c.1 in
          let unmixed : IsUnmixed (children inside.content) (content_text inside.content) = subst (λ (x : List Element). IsUnmixed x (content_text inside.content)) inside.kids (subst (λ (x : List ℕ). IsUnmixed a.0.children x) inside.words m.0) in
          let means : tree h.name h.attributes (children inside.content) (text_if (children inside.content) (content_text inside.content)) ≡ c.0 =
          ap (λ (x : List Element). tree h.name h.attributes x (text_if x (content_text inside.content))) (sym inside.kids) ∙ ap (λ (x : List ℕ). tree h.name h.attributes a.0.children (text_if a.0.children x)) (sym inside.words) ∙ sym m.1 in
          let printed : head ++ rest' ≡ print (whole head h inside.content closed.0) ++ b.0 =
          ap (λ (x : List ℕ). head ++ x) (inside.printed ∙ ap (λ (x : List ℕ). print_content inside.content ++ 60 ∷ 47 ∷ x) closed.2) ∙ simp append_assoc in
          subst (λ (p : Element × ℕ × List ℕ). ReadMarkup (suc d) scope seen (head ++ rest') p.0 p.1 p.2) (is_it (c.0, a.0.seen, b.0) (t, seen', rest) c.2)
          (record { markup = whole head h inside.content closed.0; fits = (omega arith, k.0, spelled, bounds.1, inside.fits, closed.1, unmixed); means = means; counted = omega (arith, inside.seen); few = inside.few; printed = printed })
    ]

pub element_sound : (d : ℕ) (scope : List Bound) → Child d scope
unfolding element_at
element_sound zero scope seen cs t seen' rest e = absurd (cc (bind_ok (head_at scope cs) (λ h. Err TooDeep) (t, seen', rest) e).2)
element_sound (suc d) scope seen cs t seen' rest e =
    let b = bind_ok (head_at scope cs) (level_at (element_at d) seen) (t, seen', rest) e in
    let k = head_takes scope cs b.0.0 b.0.1 b.1 in
    subst (λ (x : List ℕ). ReadMarkup (suc d) scope seen x t seen' rest) (sym k.2)
    (level_sound d scope k.0 b.0.0 seen b.0.1 t seen' rest (element_sound d b.0.0.scope) k.1 b.2)
