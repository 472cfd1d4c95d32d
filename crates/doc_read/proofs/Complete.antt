-- What spells an element is read as that element.
use Rattle.std.proofs.Common.{◌≡◌, ℕ, zero, suc, ◌+◌, ◌-◌, ◌≤◌, ◌<◌, true, false, eqb, List, [], ◌∷◌, ◌++◌, length, Ok, refl, sym, ap, ◌∙◌, append_assoc, arith}
use Rattle.std.specs.List.{list_all}
use Rattle.std.specs.Prelude.{encode_utf8, encode_utf8_all}
use Rattle.std.proofs.lemmas.Bool.{lt-ltb, le-leb, eqb-true}
use Rattle.std.proofs.lemmas.Bool.Decides.{nat_tests}
use Rattle.std.proofs.lemmas.List.{append-nil, length-append}
use Rattle.wfs_ends.specs.Read.{until, unless}
use Rattle.doc_tree.specs.declared.tree.Element.{Element}
use Rattle.doc_read.specs.declared.fault.DocFault.TheVariants.{Malformed}
use Rattle.doc_read.specs.declared.lex.Class.TheVariants.{Text}
use Rattle.doc_read.specs.declared.word.Word.TheVariants as word
use Rattle.doc_read.specs.Chars.{holds, contains}
use Rattle.doc_read.specs.declared.scope.Bound.{Bound}
use Rattle.doc_read.specs.Element.{Head, Inside, ReadsElement, head_at, admitted, level_at, element_at, turn_at, content_at, run_at, closed_at, made, tree}
use Rattle.doc_read.specs.Grammar.{Reference, print_reference, Piece, comment, section, reference, print_piece, piece_text, IsPiece, IsReference, Markup, leaf, whole, Content, last, piece, child, print, print_content, content_text, meaning, children, count, counts, text_if, IsMarkup, IsContent, IsRun, IsFew, IsUnmixed, SpellsHead, spell}
use Rattle.doc_read.proofs.Again.{start_no_sign, reference_again, head_again, closed_again, marked_comment, section_again, begins_head}
use Rattle.doc_read.proofs.Untils.{until_next, until_stops}
use Rattle.doc_read.proofs.Fronts.{both, false_unless, split_again}

abbrev pub at : List Element → List ℕ → ℕ → List ℕ → Inside
at kids text seen rest = record { children = kids; text = text; seen = seen; rest = rest }

-- ---- the parts

not_zero : (n : ℕ) → eqb (suc n) 0 ≡ false
not_zero n = false_unless (eqb (suc n) 0) (λ e. absurd (omega (arith, eqb-true _ _ e)))

made_again : (h : Head) (kids : List Element) (text : List ℕ) → IsUnmixed kids text → made h.name h.attributes kids text ≡ Ok (tree h.name h.attributes kids (text_if kids text))
unfolding made
made_again h [] text fits = refl
made_again h (k ∷ kids) text fits = rw (not_zero (length kids), fits) refl

-- ---- turns

no_mark : (c : ℕ) → holds Text c ≡ true → (eqb c 60 ≡ false) × (eqb c 38 ≡ false)
no_mark c h = (grind (arith, nat_tests), grind (arith, nat_tests))

text_turn : (element : ℕ → List ℕ → ReadsElement) (kids : List Element) (text : List ℕ) (seen : ℕ) (c : ℕ) (cs : List ℕ) (stop : ℕ) (more : List ℕ) → IsRun (c ∷ cs) → holds Text stop ≡ false → turn_at element (at kids text seen ((c ∷ cs) ++ stop ∷ more)) ≡ Ok (false, at kids (text ++ encode_utf8_all (c ∷ cs)) seen (stop ∷ more))
unfolding turn_at run_at unless
text_turn element kids text seen c cs stop more run stops =
    let p = both (holds Text c) (list_all (holds Text) cs) run.each in
    let no = no_mark c p.0 in
    rw (no.0, no.1, split_again Text (c ∷ cs) (stop ∷ more) run.each stops, run.unclosed) refl

-- a text run takes one turn, or none where it is empty
run_skips : (element : ℕ → List ℕ → ReadsElement) (n : ℕ) (kids : List Element) (text : List ℕ) (seen : ℕ) (run : List ℕ) (stop : ℕ) (more : List ℕ) → IsRun run → holds Text stop ≡ false → length run < n
    → (k : ℕ) × (n ≤ k + length run) × (until Malformed (turn_at element) n (at kids text seen (run ++ stop ∷ more)) ≡ until Malformed (turn_at element) k (at kids (text ++ encode_utf8_all run) seen (stop ∷ more)))
run_skips element n kids text seen [] stop more run stops lt = (n, omega arith, rw (append-nil text) refl)
run_skips element n kids text seen (c ∷ cs) stop more run stops lt =
    (n - 1, omega arith, until_next Malformed (turn_at element) n (at kids text seen ((c ∷ cs) ++ stop ∷ more)) _ (omega arith) (text_turn element kids text seen c cs stop more run stops))

slash_turn : (element : ℕ → List ℕ → ReadsElement) (kids : List Element) (text : List ℕ) (seen : ℕ) (rest : List ℕ) → turn_at element (at kids text seen (60 ∷ 47 ∷ rest)) ≡ Ok (true, at kids text seen rest)
unfolding turn_at
slash_turn element kids text seen rest = refl

reference_turn : (element : ℕ → List ℕ → ReadsElement) (kids : List Element) (text : List ℕ) (seen : ℕ) (r : Reference) (c : ℕ) (rest : List ℕ) → IsReference r c → turn_at element (at kids text seen (38 ∷ (print_reference r ++ 59 ∷ rest))) ≡ Ok (false, at kids (text ++ encode_utf8 c) seen rest)
unfolding turn_at
reference_turn element kids text seen r c rest is = rw (reference_again r c rest is) refl

comment_turn : (element : ℕ → List ℕ → ReadsElement) (kids : List Element) (text : List ℕ) (seen : ℕ) (body rest : List ℕ) → contains word.Dashes body ≡ false → turn_at element (at kids text seen (60 ∷ 33 ∷ 45 ∷ 45 ∷ (body ++ 45 ∷ 45 ∷ 62 ∷ rest))) ≡ Ok (false, at kids (text ++ []) seen rest)
unfolding turn_at
comment_turn element kids text seen body rest is = rw (marked_comment body rest is) refl

section_turn : (element : ℕ → List ℕ → ReadsElement) (kids : List Element) (text : List ℕ) (seen : ℕ) (body rest : List ℕ) → contains word.SectionEnd body ≡ false → turn_at element (at kids text seen (60 ∷ 33 ∷ 91 ∷ 67 ∷ 68 ∷ 65 ∷ 84 ∷ 65 ∷ 91 ∷ (body ++ 93 ∷ 93 ∷ 62 ∷ rest))) ≡ Ok (false, at kids (text ++ encode_utf8_all body) seen rest)
unfolding turn_at
section_turn element kids text seen body rest is = rw (section_again body rest is) refl

piece_turn : (element : ℕ → List ℕ → ReadsElement) (kids : List Element) (text : List ℕ) (seen : ℕ) (p : Piece) (rest : List ℕ) → IsPiece p → turn_at element (at kids text seen (print_piece p ++ rest)) ≡ Ok (false, at kids (text ++ piece_text p) seen rest)
piece_turn element kids text seen (comment body) rest is =
    ap (λ (x : List ℕ). turn_at element (at kids text seen (60 ∷ 33 ∷ 45 ∷ 45 ∷ x))) (append_assoc body (45 ∷ 45 ∷ 62 ∷ []) rest) ∙ comment_turn element kids text seen body rest is
piece_turn element kids text seen (section body) rest is =
    ap (λ (x : List ℕ). turn_at element (at kids text seen (60 ∷ 33 ∷ 91 ∷ 67 ∷ 68 ∷ 65 ∷ 84 ∷ 65 ∷ 91 ∷ x))) (append_assoc body (93 ∷ 93 ∷ 62 ∷ []) rest) ∙ section_turn element kids text seen body rest is
piece_turn element kids text seen (reference r c) rest is =
    ap (λ (x : List ℕ). turn_at element (at kids text seen (38 ∷ x))) (append_assoc (print_reference r) (59 ∷ []) rest) ∙ reference_turn element kids text seen r c rest is

-- a piece begins with markup or a reference
begins_piece : (p : Piece) (rest : List ℕ) → (c : ℕ) × (cs : List ℕ) × (print_piece p ++ rest ≡ c ∷ cs) × (holds Text c ≡ false)
begins_piece (comment body) rest = (60, 33 ∷ 45 ∷ 45 ∷ ((body ++ 45 ∷ 45 ∷ 62 ∷ []) ++ rest), refl, refl)
begins_piece (section body) rest = (60, 33 ∷ 91 ∷ 67 ∷ 68 ∷ 65 ∷ 84 ∷ 65 ∷ 91 ∷ ((body ++ 93 ∷ 93 ∷ 62 ∷ []) ++ rest), refl, refl)
begins_piece (reference r c) rest = (38, (print_reference r ++ 59 ∷ []) ++ rest, refl, refl)

pub some_piece : (p : Piece) → 0 < length (print_piece p)
some_piece (comment body) = omega arith
some_piece (section body) = omega arith
some_piece (reference r c) = omega arith

-- ---- elements

same_inside : (kids kids' : List Element) (text text' : List ℕ) (seen seen' : ℕ) (rest : List ℕ) → kids ≡ kids' → text ≡ text' → seen ≡ seen' → at kids text seen rest ≡ at kids' text' seen' rest
same_inside kids kids' text text' seen seen' rest a b c = rw (a, b, c) refl

child_turn : (element : ℕ → List ℕ → ReadsElement) (kids : List Element) (text : List ℕ) (seen : ℕ) (scope : List Bound) (head : List ℕ) (h : Head) (more : List ℕ) (t : Element) (seen' : ℕ) (rest : List ℕ) → SpellsHead scope head h → element seen (head ++ more) ≡ Ok (t, seen', rest)
    → turn_at element (at kids text seen (60 ∷ (head ++ more))) ≡ Ok (false, at (kids ++ t ∷ []) text seen' rest)
unfolding turn_at
child_turn element kids text seen scope head h more t seen' rest spelled reads =
    let b = begins_head scope head h spelled in
    let no = start_no_sign b.0 b.3 in
    let e : head ++ more ≡ b.0 ∷ (b.1 ++ more) = ap (λ (x : List ℕ). x ++ more) b.2 in
    let r : element seen (b.0 ∷ (b.1 ++ more)) ≡ Ok (t, seen', rest) = ap (element seen) (sym e) ∙ reads in
    rw (e, no.0, no.1, r) refl

markup_turn : (element : ℕ → List ℕ → ReadsElement) (kids : List Element) (text : List ℕ) (seen : ℕ) (m : Markup) (d : ℕ) (scope : List Bound) (more : List ℕ) (t : Element) (seen' : ℕ) (rest : List ℕ) → IsMarkup m d scope → element seen (print m ++ more) ≡ Ok (t, seen', rest)
    → turn_at element (at kids text seen (60 ∷ (print m ++ more))) ≡ Ok (false, at (kids ++ t ∷ []) text seen' rest)
markup_turn element kids text seen (leaf head h) d scope more t seen' rest is reads = child_turn element kids text seen scope head h more t seen' rest is.2 reads
markup_turn element kids text seen (whole head h c gap) d scope more t seen' rest is reads =
    let tail : List ℕ = print_content c ++ 60 ∷ 47 ∷ (spell h.spelling ++ (gap ++ 62 ∷ [])) in
    let e : print (whole head h c gap) ++ more ≡ head ++ (tail ++ more) = append_assoc head tail more in
    ap (λ (x : List ℕ). turn_at element (at kids text seen (60 ∷ x))) e ∙ child_turn element kids text seen scope head h (tail ++ more) t seen' rest is.2 (ap (element seen) (sym e) ∙ reads)

admitted_again : (seen attributes : ℕ) → seen < 100000 → attributes ≤ 64 → admitted seen attributes ≡ Ok tt
unfolding admitted
admitted_again seen attributes few less = rw (lt-ltb seen 100000 few, le-leb attributes 64 less) refl

leaf_level : (element : List Bound → ℕ → List ℕ → ReadsElement) (seen : ℕ) (h : Head) (rest : List ℕ) → h.is_empty ≡ true → seen < 100000 → IsFew h.attributes → level_at element seen (h, rest) ≡ Ok (tree h.name h.attributes [] [], seen + 1, rest)
unfolding level_at
leaf_level element seen h rest empty few less = rw (admitted_again seen (length h.attributes) few less, empty) refl

whole_level : (element : List Bound → ℕ → List ℕ → ReadsElement) (seen : ℕ) (h : Head) (rest after : List ℕ) (inside : Inside) (t : Element) → h.is_empty ≡ false → seen < 100000 → IsFew h.attributes → content_at (element h.scope) (seen + 1) rest ≡ Ok inside → closed_at h.spelling inside.rest ≡ Ok after → made h.name h.attributes inside.children inside.text ≡ Ok t → level_at element seen (h, rest) ≡ Ok (t, inside.seen, after)
unfolding level_at
whole_level element seen h rest after inside t empty few less content closed is_made = rw (admitted_again seen (length h.attributes) few less, empty, content, closed, is_made) refl

level_is : (d : ℕ) (scope : List Bound) (seen : ℕ) (cs : List ℕ) (h : Head) (rest : List ℕ) → head_at scope cs ≡ Ok (h, rest) → element_at (suc d) scope seen cs ≡ level_at (element_at d) seen (h, rest)
unfolding element_at
level_is d scope seen cs h rest is = rw is refl

content_is : (element : ℕ → List ℕ → ReadsElement) (seen : ℕ) (cs : List ℕ) → content_at element seen cs ≡ until Malformed (turn_at element) (length cs) (at [] [] seen cs)
unfolding content_at
content_is element seen cs = refl

mutual
  pub complete_markup : (m : Markup) (d : ℕ) (scope : List Bound) (seen : ℕ) (rest : List ℕ) → IsMarkup m d scope → seen + count m ≤ 100000 → element_at d scope seen (print m ++ rest) ≡ Ok (meaning m, seen + count m, rest)
  complete_markup (leaf text h) zero scope seen rest is few = absurd (omega (arith, is.0))
  complete_markup (leaf text h) (suc d) scope seen rest is few =
      level_is d scope seen (text ++ rest) h rest (head_again scope text h rest is.2) ∙ leaf_level (element_at d) seen h rest is.1 (omega arith) is.3
  complete_markup (whole text h c gap) zero scope seen rest is few = absurd (omega (arith, is.0))
  complete_markup (whole text h c gap) (suc d) scope seen rest is few =
      let end : List ℕ = spell h.spelling ++ (gap ++ 62 ∷ rest) in
      let body : List ℕ = print_content c ++ 60 ∷ 47 ∷ end in
      let regrouped : print (whole text h c gap) ++ rest ≡ text ++ body = simp append_assoc in
      let inside : content_at (element_at d h.scope) (seen + 1) body ≡ Ok (at (children c) (content_text c) ((seen + 1) + counts c) end) =
      content_is (element_at d h.scope) (seen + 1) body ∙ complete_content c d h.scope (length body) [] [] (seen + 1) end is.4 (omega arith) (omega (arith, length-append (print_content c) (60 ∷ 47 ∷ end))) in
      ap (element_at (suc d) scope seen) regrouped ∙ level_is d scope seen (text ++ body) h body (head_again scope text h body is.2)
      ∙ whole_level (element_at d) seen h body rest _ _ is.1 (omega arith) is.3 inside (closed_again h.spelling gap rest is.2.tag.name is.5) (made_again h (children c) (content_text c) is.6)
      ∙ ap (λ (k : ℕ). Ok (meaning (whole text h c gap), k, rest)) (omega arith)

  pub complete_content : (c : Content) (d : ℕ) (scope : List Bound) (n : ℕ) (kids : List Element) (text : List ℕ) (seen : ℕ) (rest : List ℕ) → IsContent c d scope → seen + counts c ≤ 100000 → length (print_content c) < n
      → until Malformed (turn_at (element_at d scope)) n (at kids text seen (print_content c ++ 60 ∷ 47 ∷ rest)) ≡ Ok (at (kids ++ children c) (text ++ content_text c) (seen + counts c) rest)
  complete_content (last run) d scope n kids text seen rest is few lt =
      let r = run_skips (element_at d scope) n kids text seen run 60 (47 ∷ rest) is refl lt in
      r.2 ∙ until_stops Malformed (turn_at (element_at d scope)) r.0 _ _ (omega (arith, r.1)) (slash_turn (element_at d scope) kids (text ++ encode_utf8_all run) seen rest)
      ∙ ap Ok (same_inside _ _ _ _ _ _ rest (sym (append-nil kids)) refl (omega arith))
  complete_content (piece run p c) d scope n kids text seen rest is few lt =
      let more : List ℕ = print_content c ++ 60 ∷ 47 ∷ rest in
      let long = length-append run (print_piece p ++ print_content c) in
      let long' = length-append (print_piece p) (print_content c) in
      let b = begins_piece p more in
      let r = run_skips (element_at d scope) n kids text seen run b.0 b.1 is.0 b.3 (omega (arith, long, long', some_piece p)) in
      let regrouped : print_content (piece run p c) ++ 60 ∷ 47 ∷ rest ≡ run ++ (print_piece p ++ more) = simp append_assoc in
      let turn = ap (λ (x : List ℕ). turn_at (element_at d scope) (at kids (text ++ encode_utf8_all run) seen x)) (sym b.2) ∙ piece_turn (element_at d scope) kids (text ++ encode_utf8_all run) seen p more is.1 in
      ap (λ (x : List ℕ). until Malformed (turn_at (element_at d scope)) n (at kids text seen x)) (regrouped ∙ ap (λ (x : List ℕ). run ++ x) b.2) ∙ r.2
      ∙ until_next Malformed (turn_at (element_at d scope)) r.0 _ _ (omega (arith, r.1, long, long', some_piece p)) turn
      ∙ complete_content c d scope (r.0 - 1) kids ((text ++ encode_utf8_all run) ++ piece_text p) seen rest is.2 few (omega (arith, r.1, long, long', some_piece p))
      ∙ ap Ok (same_inside _ _ _ _ _ _ rest refl (simp append_assoc) refl)
  complete_content (child run m c) d scope n kids text seen rest is few lt =
      let more : List ℕ = print_content c ++ 60 ∷ 47 ∷ rest in
      let long = length-append run (60 ∷ (print m ++ print_content c)) in
      let long' = length-append (print m) (print_content c) in
      let r = run_skips (element_at d scope) n kids text seen run 60 (print m ++ more) is.0 refl (omega (arith, long)) in
      let regrouped : print_content (child run m c) ++ 60 ∷ 47 ∷ rest ≡ run ++ 60 ∷ (print m ++ more) = simp append_assoc in
      ap (λ (x : List ℕ). until Malformed (turn_at (element_at d scope)) n (at kids text seen x)) regrouped ∙ r.2
      ∙ until_next Malformed (turn_at (element_at d scope)) r.0 _ _ (omega (arith, r.1, long)) (markup_turn (element_at d scope) kids (text ++ encode_utf8_all run) seen m d scope more (meaning m) (seen + count m) more is.1 (complete_markup m d scope seen more is.1 (omega arith)))
      ∙ complete_content c d scope (r.0 - 1) (kids ++ meaning m ∷ []) (text ++ encode_utf8_all run) (seen + count m) rest is.2 (omega arith) (omega (arith, r.1, long, long'))
      ∙ ap Ok (same_inside _ _ _ _ _ _ rest (append_assoc kids (meaning m ∷ []) (children c)) (append_assoc text (encode_utf8_all run) (content_text c)) (omega arith))
