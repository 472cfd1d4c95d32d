-- The law of documents: what is read is spelled so, and what is spelled so is read.
use Rattle.std.proofs.Common.{◌≡◌, ℕ, zero, suc, ◌+◌, ◌-◌, ◌<◌, ◌⊎◌, Bool, true, false, cond, eqb, List, [], ◌∷◌, ◌++◌, length, Result, Ok, Err, refl, sym, ap, subst, ◌∙◌, append_assoc, arith, inl, inr}
use Rattle.std.specs.Prelude.{IfOk}
use Rattle.std.specs.List.{list_all}
use Rattle.std.specs.Str.{is_utf8, chars}
use Rattle.std.proofs.lemmas.Bool.{eqb-true}
use Rattle.std.proofs.lemmas.Bool.Decides.{nat_tests}
use Rattle.std.proofs.lemmas.List.{append-nil, length-append, nil_from_length}
use Rattle.std.proofs.lemmas.Str.{is_utf8-from_IsUtf8, IsUtf8-from_is_utf8}
use Rattle.wfs_ends.specs.Read.{◌>>=◌, until}
use Rattle.wfs_ends.proofs.Turns.{bind_ok, if_ok, chosen}
use Rattle.doc_tree.specs.declared.tree.Element.{Element}
use Rattle.doc_read.specs.declared.fault.DocFault.{DocFault}
use Rattle.doc_read.specs.declared.fault.DocFault.TheVariants.{NotText, Malformed}
use Rattle.doc_read.specs.declared.lex.Class.TheVariants.{Space, NameStart}
use Rattle.doc_read.specs.declared.word.Word.TheVariants as word
use Rattle.doc_read.specs.Read.{Gives}
use Rattle.doc_tree.specs.Characters.{is_allowed}
use Rattle.doc_read.specs.Chars.{holds, starts, skip_space, expected_at, begins, contains}
use Rattle.doc_read.specs.Scope.{xml_scope}
use Rattle.doc_read.specs.Declaration.{declaration_at}
use Rattle.doc_read.specs.Element.{remark_at, element_at}
use Rattle.doc_read.specs.Document.{line_feeds, unmarked, misc_turn, misc_piece, misc_at, tree_at, document}
use Rattle.doc_read.specs.Grammar.{Markup, leaf, whole, Misc, spaces, remark, print, print_content, spell, print_misc, print_comment, IsMarkup, IsMisc, IsBlank, SpellsDeclaration, SpellsText, Spells}
use Rattle.doc_read.proofs.Fronts.{both, split_again}
use Rattle.doc_read.proofs.Untils.{until_next, until_stops}
use Rattle.doc_read.proofs.Marks.{done, expected_takes, begins_cons}
use Rattle.doc_read.proofs.Again.{start_no_sign, comment_again, begins_head}
use Rattle.doc_read.proofs.Takes.{is_it, skip_takes, remark_takes}
use Rattle.doc_read.proofs.Complete.{complete_markup}
use Rattle.doc_read.proofs.Sound.{element_sound}
use Rattle.doc_read.proofs.Settings.{declaration_again, no_declaration, declaration_takes}

-- ---- white space and comments

-- where white space and comments end
pub record Stops (rest : List ℕ) : Type 0 where
  pub no_space : starts Space rest ≡ false
  pub no_comment : misc_piece rest ≡ Ok (true, rest)

skips : (gap rest : List ℕ) → IsBlank gap → starts Space rest ≡ false → skip_space (gap ++ rest) ≡ rest
skips gap rest blank stops = ap (λ (p : List ℕ × List ℕ). p.1) (split_again Space gap rest blank stops)

misc_again : (m : Misc) (n : ℕ) (rest : List ℕ) → IsMisc m → Stops rest → length (print_misc m) < n → until Malformed misc_turn n (print_misc m ++ rest) ≡ Ok rest
unfolding misc_turn
misc_again (spaces gap) n rest is stops lt = until_stops Malformed misc_turn n _ _ (omega arith) (ap misc_piece (skips gap rest is stops.no_space) ∙ stops.no_comment)
misc_again (remark gap text m) n rest is stops lt =
    let more : List ℕ = print_misc m ++ rest in
    let long = length-append gap (print_comment text ++ print_misc m) in
    let long' = length-append (print_comment text) (print_misc m) in
    let regrouped : print_misc (remark gap text m) ++ rest ≡ gap ++ 60 ∷ 33 ∷ 45 ∷ 45 ∷ (text ++ 45 ∷ 45 ∷ 62 ∷ more) = simp append_assoc in
    let turn : misc_turn (gap ++ 60 ∷ 33 ∷ 45 ∷ 45 ∷ (text ++ 45 ∷ 45 ∷ 62 ∷ more)) ≡ Ok (false, more) =
    ap misc_piece (skips gap (60 ∷ 33 ∷ 45 ∷ 45 ∷ (text ++ 45 ∷ 45 ∷ 62 ∷ more)) is.0 refl) ∙ rw (comment_again text more is.1) refl in
    ap (until Malformed misc_turn n) regrouped ∙ until_next Malformed misc_turn n _ _ (omega arith) turn ∙ misc_again m (n - 1) rest is.2 stops (omega (arith, long, long'))

pub misc_is_read : (m : Misc) (rest : List ℕ) → IsMisc m → Stops rest → misc_at (print_misc m ++ rest) ≡ Ok rest
misc_is_read m rest is stops = misc_again m (length (print_misc m ++ rest) + 1) rest is stops (omega (arith, length-append (print_misc m) rest))

pub record ReadMisc (cs rest : List ℕ) : Type 0 where
  pub misc : Misc
  pub fits : IsMisc misc
  pub printed : cs ≡ print_misc misc ++ rest

-- one turn: nothing more, or a comment
pub record ReadRemark (cs t : List ℕ) : Type 0 where
  pub text : List ℕ
  pub fits : contains word.Dashes text ≡ false
  pub printed : cs ≡ 60 ∷ 33 ∷ 45 ∷ 45 ∷ (text ++ 45 ∷ 45 ∷ 62 ∷ t)

ends_here : (xs : List ℕ) (b : Bool) (t : List ℕ) → done {A = Bool × List ℕ} (true, xs) ≡ done (b, t) → ((b ≡ true) × (xs ≡ t)) ⊎ ((b ≡ false) × ReadRemark xs t)
ends_here xs b t e = let is = is_it (true, xs) (b, t) e in inl (sym (ap (λ (p : Bool × List ℕ). p.0) is), ap (λ (p : Bool × List ℕ). p.1) is)

pub misc_piece_takes : (xs : List ℕ) (b : Bool) (t : List ℕ) → misc_piece xs ≡ Ok (b, t) → ((b ≡ true) × (xs ≡ t)) ⊎ ((b ≡ false) × ReadRemark xs t)
misc_piece_takes [] b t e = ends_here [] b t e
misc_piece_takes (c ∷ []) b t e =
    elim (chosen (eqb c 60) (done (true, c ∷ [])) (done (true, c ∷ [])) (Ok (b, t)) e) [
      | inl h ↦ ends_here (c ∷ []) b t h.1
      | inr h ↦ ends_here (c ∷ []) b t h.1
    ]
misc_piece_takes (c ∷ d ∷ cs) b t e =
    let remarked : Result (Bool × List ℕ) DocFault = remark_at cs >>= λ rest. Ok (false, rest) in
    elim (chosen (eqb c 60) (cond (eqb d 33) remarked (done (true, c ∷ d ∷ cs))) (done (true, c ∷ d ∷ cs)) (Ok (b, t)) e) [
      | inl h ↦ elim (chosen (eqb d 33) remarked (done (true, c ∷ d ∷ cs)) (Ok (b, t)) h.1) [
        | inl g ↦
            let r = bind_ok (remark_at cs) (λ rest. Ok (false, rest)) (b, t) g.1 in
            let is = is_it (false, r.0) (b, t) r.2 in
            let k = remark_takes cs r.0 r.1 in
            let printed : c ∷ d ∷ cs ≡ 60 ∷ 33 ∷ 45 ∷ 45 ∷ (k.0 ++ 45 ∷ 45 ∷ 62 ∷ t) = ap (λ (n : ℕ). n ∷ d ∷ cs) (eqb-true c 60 h.0) ∙ ap (λ (n : ℕ). 60 ∷ n ∷ cs) (eqb-true d 33 g.0) ∙ ap (λ (ys : List ℕ). 60 ∷ 33 ∷ ys) (k.2 ∙ ap (λ (ys : List ℕ). 45 ∷ 45 ∷ (k.0 ++ 45 ∷ 45 ∷ 62 ∷ ys)) (ap (λ (p : Bool × List ℕ). p.1) is)) in
            inr (sym (ap (λ (p : Bool × List ℕ). p.0) is), record { text = k.0; fits = k.1; printed = printed })
        | inr g ↦ ends_here (c ∷ d ∷ cs) b t g.1
      ]
      | inr h ↦ ends_here (c ∷ d ∷ cs) b t h.1
    ]

misc_sound : (n : ℕ) (cs rest : List ℕ) → until Malformed misc_turn n cs ≡ Ok rest → ReadMisc cs rest
unfolding until misc_turn
misc_sound zero cs rest e = absurd cc
misc_sound (suc n) cs rest e =
    let b = bind_ok (misc_turn cs) (λ t. cond t.0 (Ok t.1) (until Malformed misc_turn n t.1)) rest e in
    let k = skip_takes cs in
    elim (misc_piece_takes (skip_space cs) b.0.0 b.0.1 b.1) [
      | inl h ↦
          let same : b.0.1 ≡ rest = is_it b.0.1 rest (subst (λ (x : Bool). cond x (Ok b.0.1) (until Malformed misc_turn n b.0.1) ≡ Ok rest) h.0 b.2) in
          record { misc = spaces k.0; fits = k.1; printed = k.2 ∙ ap (λ (x : List ℕ). k.0 ++ x) (h.1 ∙ same) }
      | inr h ↦
          let more = misc_sound n b.0.1 rest (subst (λ (x : Bool). cond x (Ok b.0.1) (until Malformed misc_turn n b.0.1) ≡ Ok rest) h.0 b.2) in
          let r = h.1 in
          record { misc = remark k.0 r.text more.misc; fits = (k.1, r.fits, more.fits); printed = k.2 ∙ ap (λ (x : List ℕ). k.0 ++ x) (r.printed ∙ ap (λ (x : List ℕ). 60 ∷ 33 ∷ 45 ∷ 45 ∷ (r.text ++ 45 ∷ 45 ∷ 62 ∷ x)) more.printed) ∙ simp append_assoc }
    ]

-- ---- texts

start_no_question : (c : ℕ) → holds NameStart c ≡ true → eqb c 63 ≡ false
start_no_question c h = grind (arith, nat_tests)

space_no_less : (c : ℕ) → holds Space c ≡ true → eqb c 60 ≡ false
space_no_less c h = grind (arith, nat_tests)

-- a tag begins with a name
begins_markup : (m : Markup) (d : ℕ) (rest : List ℕ) → IsMarkup m d xml_scope → (c : ℕ) × (cs : List ℕ) × (print m ++ rest ≡ c ∷ cs) × (holds NameStart c ≡ true)
begins_markup (leaf text h) d rest is =
    let b = begins_head xml_scope text h is.2 in
    (b.0, b.1 ++ rest, ap (λ (x : List ℕ). x ++ rest) b.2, b.3)
begins_markup (whole text h c gap) d rest is =
    let b = begins_head xml_scope text h is.2 in
    let tail : List ℕ = print_content c ++ 60 ∷ 47 ∷ (spell h.spelling ++ (gap ++ 62 ∷ [])) in
    (b.0, (b.1 ++ tail) ++ rest, ap (λ (x : List ℕ). (x ++ tail) ++ rest) b.2, b.3)

stops_at_markup : (m : Markup) (d : ℕ) (rest : List ℕ) → IsMarkup m d xml_scope → Stops (60 ∷ (print m ++ rest))
stops_at_markup m d rest is =
    let b = begins_markup m d rest is in
    record { no_space = refl; no_comment = rw (b.2, (start_no_sign b.0 b.3).1) refl }

no_opening_less : (c : ℕ) (cs : List ℕ) → eqb c 63 ≡ false → begins word.Declaration (60 ∷ c ∷ cs) ≡ false
no_opening_less c cs other = begins_cons 60 _ 60 (c ∷ cs) ∙ begins_cons 63 _ c cs ∙ rw other refl

no_opening_space : (c : ℕ) (cs : List ℕ) → holds Space c ≡ true → begins word.Declaration (c ∷ cs) ≡ false
no_opening_space c cs space = begins_cons 60 _ c cs ∙ rw (space_no_less c space) refl

no_opening : (m : Misc) (c : ℕ) (cs : List ℕ) → IsMisc m → holds NameStart c ≡ true → begins word.Declaration (print_misc m ++ 60 ∷ c ∷ cs) ≡ false
no_opening (spaces []) c cs is start = no_opening_less c cs (start_no_question c start)
no_opening (spaces (g ∷ gap)) c cs is start = no_opening_space g (gap ++ 60 ∷ c ∷ cs) (both (holds Space g) (list_all (holds Space) gap) is).0
no_opening (remark [] text m) c cs is start = no_opening_less 33 _ refl
no_opening (remark (g ∷ gap) text m) c cs is start = no_opening_space g _ (both (holds Space g) (list_all (holds Space) gap) is.0).0

opening_again : (opening rest : List ℕ) → (opening ≡ []) ⊎ SpellsDeclaration opening → begins word.Declaration rest ≡ false → declaration_at (opening ++ rest) ≡ Ok rest
opening_again opening rest is none =
    elim is [
      | inl e ↦ ap (λ (x : List ℕ). declaration_at (x ++ rest)) e ∙ no_declaration rest none
      | inr s ↦ declaration_again opening rest s
    ]

tree_again : (cs : List ℕ) (t : Element) → SpellsText cs t → tree_at cs ≡ Ok t
unfolding tree_at
tree_again cs t s =
    let tail : List ℕ = print s.markup ++ print_misc s.after in
    let body : List ℕ = print_misc s.before ++ 60 ∷ tail in
    let b = begins_markup s.markup 32 (print_misc s.after) s.fits in
    let none : begins word.Declaration body ≡ false = ap (λ (x : List ℕ). begins word.Declaration (print_misc s.before ++ 60 ∷ x)) b.2 ∙ no_opening s.before b.0 b.1 s.before_fits b.3 in
    let opens : declaration_at cs ≡ Ok body = ap declaration_at s.whole ∙ opening_again s.opening body s.opening_fits none in
    let begin : misc_at body ≡ Ok (60 ∷ tail) = misc_is_read s.before (60 ∷ tail) s.before_fits (stops_at_markup s.markup 32 (print_misc s.after) s.fits) in
    let root = complete_markup s.markup 32 xml_scope 0 (print_misc s.after) s.fits (omega (arith, s.few)) in
    let end : misc_at (print_misc s.after) ≡ Ok [] = ap misc_at (sym (append-nil (print_misc s.after))) ∙ misc_is_read s.after [] s.after_fits (record { no_space = refl; no_comment = refl }) in
    rw (opens, begin, root, end) (ap Ok s.means)

tree_sound : (cs : List ℕ) (t : Element) → tree_at cs ≡ Ok t → SpellsText cs t
unfolding tree_at
tree_sound cs t e =
    let o = bind_ok (declaration_at cs) (λ body. misc_at body >>= λ begin. expected_at 60 begin >>= λ after. element_at 32 xml_scope 0 after >>= λ root. misc_at root.2 >>= λ end. cond (eqb (length end) 0) (Ok root.0) (Err Malformed)) t e in
    let a = bind_ok (misc_at o.0) (λ begin. expected_at 60 begin >>= λ after. element_at 32 xml_scope 0 after >>= λ root. misc_at root.2 >>= λ end. cond (eqb (length end) 0) (Ok root.0) (Err Malformed)) t o.2 in
    let b = bind_ok (expected_at 60 a.0) (λ after. element_at 32 xml_scope 0 after >>= λ root. misc_at root.2 >>= λ end. cond (eqb (length end) 0) (Ok root.0) (Err Malformed)) t a.2 in
    let c = bind_ok (element_at 32 xml_scope 0 b.0) (λ root. misc_at root.2 >>= λ end. cond (eqb (length end) 0) (Ok root.0) (Err Malformed)) t b.2 in
    let d = bind_ok (misc_at c.0.2) (λ end. cond (eqb (length end) 0) (Ok c.0.0) (Err Malformed)) t c.2 in
    let g = if_ok (eqb (length d.0) 0) (done c.0.0) Malformed t d.2 in
    let nothing : d.0 ≡ [] = nil_from_length d.0 (eqb-true (length d.0) 0 g.0) in
    let opening = declaration_takes cs o.0 o.1 in
    let before = misc_sound (length o.0 + 1) o.0 a.0 a.1 in
    let root = element_sound 32 xml_scope 0 b.0 c.0.0 c.0.1 c.0.2 c.1 in
    let after = misc_sound (length c.0.2 + 1) c.0.2 d.0 d.1 in
    let end : c.0.2 ≡ print_misc after.misc = after.printed ∙ ap (λ (x : List ℕ). print_misc after.misc ++ x) nothing ∙ append-nil (print_misc after.misc) in
    let body : o.0 ≡ print_misc before.misc ++ 60 ∷ (print root.markup ++ print_misc after.misc) =
    before.printed ∙ ap (λ (x : List ℕ). print_misc before.misc ++ x) (expected_takes 60 a.0 b.0 b.1 ∙ ap (λ (x : List ℕ). 60 ∷ x) (root.printed ∙ ap (λ (x : List ℕ). print root.markup ++ x) end)) in
    record {
      opening = opening.0;
      before = before.misc;
      markup = root.markup;
      after = after.misc;
      opening_fits = opening.1;
      before_fits = before.fits;
      fits = root.fits;
      after_fits = after.fits;
      few = omega (arith, root.few, root.counted);
      means = root.means ∙ is_it c.0.0 t g.1;
      whole = opening.2 ∙ ap (λ (x : List ℕ). opening.0 ++ x) body;
    }

-- ---- documents

pub document_again : (bytes : List ℕ) (t : Element) → Spells bytes t → document bytes ≡ Ok t
unfolding document
document_again bytes t s = rw (is_utf8-from_IsUtf8 bytes s.text, s.allowed) (tree_again (line_feeds false (unmarked (chars bytes))) t s.spells)

pub document_sound : (bytes : List ℕ) (t : Element) → document bytes ≡ Ok t → Spells bytes t
unfolding document
document_sound bytes t e =
    let cs : List ℕ = line_feeds false (unmarked (chars bytes)) in
    let a = if_ok (is_utf8 bytes) (cond (list_all is_allowed (chars bytes)) (tree_at cs) (Err NotText)) NotText t e in
    let b = if_ok (list_all is_allowed (chars bytes)) (tree_at cs) NotText t a.1 in
    record { text = IsUtf8-from_is_utf8 bytes a.0; allowed = b.0; spells = tree_sound cs t b.1 }

pub is_found : (bytes : List ℕ) (r : Result Element DocFault) → Gives r (document bytes) → IfOk r (λ e. Spells bytes e)
is_found bytes (Ok e) given = document_sound bytes e given
is_found bytes (Err f) given = tt

pub one_tree : (bytes : List ℕ) (a b : Element) → Spells bytes a → Spells bytes b → a ≡ b
one_tree bytes a b p q = is_it a b (sym (document_again bytes a p) ∙ document_again bytes b q)
