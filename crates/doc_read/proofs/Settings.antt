-- The declaration that may stand first: it is read as it is spelled, both ways.
use Rattle.std.proofs.Common.{◌≡◌, ℕ, ◌<◌, ◌⊎◌, inl, inr, List, [], ◌∷◌, ◌++◌, length, true, false, cond, not, ◌||◌, eqb, Ok, Err, refl, sym, ap, subst, ◌∙◌, append_assoc, arith}
use Rattle.std.specs.List.{list_all}
use Rattle.wfs_ends.specs.Read.{◌>>=◌, unless}
use Rattle.wfs_ends.proofs.Turns.{bind_ok, if_ok, chosen}
use Rattle.doc_read.specs.declared.fault.DocFault.TheVariants.{Malformed}
use Rattle.doc_read.specs.declared.lex.Class.TheVariants.{Space, Quoted}
use Rattle.doc_read.specs.declared.word.Word.{Word}
use Rattle.doc_read.specs.declared.word.Word.TheVariants.{Dashes, CommentEnd, Section, SectionEnd, Doctype, Declaration, Version, Encoding, Standalone, DeclarationEnd}
use Rattle.doc_read.specs.Chars.{holds, starts, split_front, skip_space, expected_at, letters, letter_at, letters_at, is_read, word_at, begins}
use Rattle.doc_read.specs.Declaration.{quoted_at, setting_at, fits, required_at, optional_at, settings_at, declaration_at}
use Rattle.doc_read.specs.Grammar.{IsBlank, IsQuote, SpellsSetting, SpellsOptional, SpellsDeclaration}
use Rattle.doc_read.proofs.Fronts.{split_again}
use Rattle.doc_read.proofs.Marks.{done, same_eqb, expected_takes, word_again, word_takes}
use Rattle.doc_read.proofs.Again.{skip_again, begins_blank, is_quote, quote_no_space}
use Rattle.doc_read.proofs.Takes.{is_it, unless_ok, not_false, split_takes, skip_takes, quote_is}

-- ---- what is spelled is read

first_letter : (w : Word) → (c : ℕ) × (cs : List ℕ) × (letters w ≡ c ∷ cs) × (holds Space c ≡ false)
first_letter Dashes = (_, _, refl, refl)
first_letter CommentEnd = (_, _, refl, refl)
first_letter Section = (_, _, refl, refl)
first_letter SectionEnd = (_, _, refl, refl)
first_letter Doctype = (_, _, refl, refl)
first_letter Declaration = (_, _, refl, refl)
first_letter Version = (_, _, refl, refl)
first_letter Encoding = (_, _, refl, refl)
first_letter Standalone = (_, _, refl, refl)
first_letter DeclarationEnd = (_, _, refl, refl)

skip_to : (gap : List ℕ) (w : Word) (x : List ℕ) → IsBlank gap → skip_space (gap ++ (letters w ++ x)) ≡ letters w ++ x
skip_to gap w x blank =
    let f = first_letter w in
    let e : letters w ++ x ≡ f.0 ∷ (f.1 ++ x) = ap (λ (y : List ℕ). y ++ x) f.2 in
    ap (λ (y : List ℕ). skip_space (gap ++ y)) e ∙ skip_again gap f.0 (f.1 ++ x) blank f.3 ∙ sym e

quoted_again : (q : ℕ) (value rest : List ℕ) → IsQuote q → list_all (holds (Quoted q)) value ≡ true → quoted_at (q ∷ (value ++ q ∷ rest)) ≡ Ok (value, rest)
unfolding quoted_at
quoted_again q value rest quotes is =
    let stops : starts (Quoted q) (q ∷ rest) ≡ false = rw (same_eqb q) refl in
    rw (is_quote q quotes, split_again (Quoted q) value (q ∷ rest) is stops, same_eqb q) refl

regroup : (w : Word) (text rest : List ℕ) (s : SpellsSetting w text) → text ++ rest ≡ s.gap ++ (letters w ++ (s.before ++ 61 ∷ (s.after ++ s.quote ∷ (s.value ++ s.quote ∷ rest))))
regroup w text rest s = ap (λ (x : List ℕ). x ++ rest) s.whole ∙ simp append_assoc

required_again : (w : Word) (text rest : List ℕ) → SpellsSetting w text → required_at w (text ++ rest) ≡ Ok rest
unfolding required_at setting_at unless
required_again w text rest s =
    let value : List ℕ = s.quote ∷ (s.value ++ s.quote ∷ rest) in
    let more : List ℕ = s.before ++ 61 ∷ (s.after ++ value) in
    rw (
      regroup w text rest s,
      begins_blank s.gap (letters w ++ more) s.gap_blank s.some,
      skip_to s.gap w more s.gap_blank,
      word_again (letters w) more,
      skip_again s.before 61 (s.after ++ value) s.before_blank refl,
      skip_again s.after s.quote (s.value ++ s.quote ∷ rest) s.after_blank (quote_no_space s.quote s.quotes),
      quoted_again s.quote s.value rest s.quotes s.inside,
      s.fitting,
    ) refl

-- a setting begins with its word
setting_begins : (w : Word) (text rest : List ℕ) → SpellsSetting w text → (more : List ℕ) × (skip_space (text ++ rest) ≡ letters w ++ more)
setting_begins w text rest s =
    let more : List ℕ = s.before ++ 61 ∷ (s.after ++ s.quote ∷ (s.value ++ s.quote ∷ rest)) in
    (more, ap skip_space (regroup w text rest s) ∙ skip_to s.gap w more s.gap_blank)

optional_again : (w : Word) (text rest : List ℕ) → SpellsOptional w text → begins w (skip_space rest) ≡ false → optional_at w (text ++ rest) ≡ Ok rest
unfolding optional_at
optional_again w text rest fits none =
    elim fits [
      | inl e ↦ ap (λ (x : List ℕ). optional_at w (x ++ rest)) e ∙ rw none refl
      | inr s ↦
          let b = setting_begins w text rest s in
          let is : begins w (skip_space (text ++ rest)) ≡ true = ap (begins w) b.1 ∙ ap is_read (word_again (letters w) b.0) in
          rw is (required_again w text rest s)
    ]

end_no_standalone : (x : List ℕ) → begins Standalone (letters DeclarationEnd ++ x) ≡ false
unfolding letters_at letter_at
end_no_standalone x = refl

end_no_encoding : (x : List ℕ) → begins Encoding (letters DeclarationEnd ++ x) ≡ false
unfolding letters_at letter_at
end_no_encoding x = refl

standalone_no_encoding : (x : List ℕ) → begins Encoding (letters Standalone ++ x) ≡ false
unfolding letters_at letter_at
standalone_no_encoding x = refl

no_encoding : (text gap rest : List ℕ) → SpellsOptional Standalone text → IsBlank gap → begins Encoding (skip_space (text ++ (gap ++ (letters DeclarationEnd ++ rest)))) ≡ false
no_encoding text gap rest fits blank =
    let end : List ℕ = gap ++ (letters DeclarationEnd ++ rest) in
    elim fits [
      | inl e ↦ ap (λ (x : List ℕ). begins Encoding (skip_space (x ++ end))) e ∙ ap (begins Encoding) (skip_to gap DeclarationEnd rest blank) ∙ end_no_encoding rest
      | inr s ↦ let b = setting_begins Standalone text end s in ap (begins Encoding) b.1 ∙ standalone_no_encoding b.0
    ]

settings_again : (text rest : List ℕ) (s : SpellsDeclaration text) → settings_at (s.version ++ (s.encoding ++ (s.standalone ++ (s.gap ++ (letters DeclarationEnd ++ rest))))) ≡ Ok rest
unfolding settings_at
settings_again text rest s =
    let end : List ℕ = s.gap ++ (letters DeclarationEnd ++ rest) in
    let no_standalone : begins Standalone (skip_space end) ≡ false = ap (begins Standalone) (skip_to s.gap DeclarationEnd rest s.gap_blank) ∙ end_no_standalone rest in
    rw (
      required_again Version s.version (s.encoding ++ (s.standalone ++ end)) s.version_fits,
      optional_again Encoding s.encoding (s.standalone ++ end) s.encoding_fits (no_encoding s.standalone s.gap rest s.standalone_fits s.gap_blank),
      optional_again Standalone s.standalone end s.standalone_fits no_standalone,
      skip_to s.gap DeclarationEnd rest s.gap_blank,
      word_again (letters DeclarationEnd) rest,
    ) refl

pub declaration_again : (text rest : List ℕ) → SpellsDeclaration text → declaration_at (text ++ rest) ≡ Ok rest
unfolding declaration_at
declaration_again text rest s =
    let more : List ℕ = s.version ++ (s.encoding ++ (s.standalone ++ (s.gap ++ (letters DeclarationEnd ++ rest)))) in
    let regrouped : text ++ rest ≡ letters Declaration ++ more = ap (λ (x : List ℕ). x ++ rest) s.whole ∙ simp append_assoc in
    let reads : word_at Declaration (text ++ rest) ≡ Ok more = ap (word_at Declaration) regrouped ∙ word_again (letters Declaration) more in
    rw reads (settings_again text rest s)

pub no_declaration : (cs : List ℕ) → begins Declaration cs ≡ false → declaration_at cs ≡ Ok cs
unfolding declaration_at
no_declaration cs none = rw none refl

-- ---- what is read is spelled so

some_gap : (gap cs rest : List ℕ) → starts Space cs ≡ true → starts Space rest ≡ false → cs ≡ gap ++ rest → 0 < length gap
some_gap [] cs rest space none e = absurd (clash (sym none ∙ ap (starts Space) (sym e) ∙ space))
  where
    clash : false ≡ true → ⊥
    clash e = absurd cc
some_gap (g ∷ gap) cs rest space none e = omega arith

quoted_takes : (cs v rest : List ℕ) → quoted_at cs ≡ Ok (v, rest) → (q : ℕ) × IsQuote q × (list_all (holds (Quoted q)) v ≡ true) × (cs ≡ q ∷ (v ++ q ∷ rest))
unfolding quoted_at
quoted_takes [] v rest e = absurd cc
quoted_takes (q ∷ cs) v rest e =
    let p = split_takes (Quoted q) cs _ _ refl in
    let g = if_ok (eqb q 34 || eqb q 39) (expected_at q (split_front (Quoted q) cs).1 >>= λ after. Ok ((split_front (Quoted q) cs).0, after)) Malformed (v, rest) e in
    let b = bind_ok (expected_at q (split_front (Quoted q) cs).1) (λ after. Ok ((split_front (Quoted q) cs).0, after)) (v, rest) g.1 in
    let is = is_it ((split_front (Quoted q) cs).0, b.0) (v, rest) b.2 in
    let end = expected_takes q (split_front (Quoted q) cs).1 b.0 b.1 in
    let both_parts = subst (λ (x : List ℕ × List ℕ). (list_all (holds (Quoted q)) x.0 ≡ true) × (q ∷ cs ≡ q ∷ (x.0 ++ q ∷ x.1))) is (p.1, ap (λ (x : List ℕ). q ∷ x) (p.0 ∙ ap (λ (x : List ℕ). (split_front (Quoted q) cs).0 ++ x) end)) in
    (q, quote_is q (eqb q 34) (eqb q 39) refl refl g.0, both_parts.0, both_parts.1)

required_takes : (w : Word) (cs rest : List ℕ) → required_at w cs ≡ Ok rest → (text : List ℕ) × SpellsSetting w text × (cs ≡ text ++ rest)
unfolding required_at setting_at
required_takes w cs rest e =
    let r = bind_ok (setting_at w cs) (λ setting. cond (fits w setting.0) (Ok setting.1) (Err Malformed)) rest e in
    let f = if_ok (fits w r.0.0) (done r.0.1) Malformed rest r.2 in
    let a = bind_ok (unless (not (starts Space cs)) Malformed) (λ gap. word_at w (skip_space cs) >>= λ after. expected_at 61 (skip_space after) >>= λ value. quoted_at (skip_space value)) r.0 r.1 in
    let b = bind_ok (word_at w (skip_space cs)) (λ after. expected_at 61 (skip_space after) >>= λ value. quoted_at (skip_space value)) r.0 a.2 in
    let c = bind_ok (expected_at 61 (skip_space b.0)) (λ value. quoted_at (skip_space value)) r.0 b.2 in
    let q = quoted_takes (skip_space c.0) r.0.0 r.0.1 c.2 in
    let gap = split_takes Space cs _ _ refl in
    let before = skip_takes b.0 in
    let after = skip_takes c.0 in
    let space = not_false (starts Space cs) (unless_ok (not (starts Space cs)) Malformed a.0 a.1) in
    let text : List ℕ = (split_front Space cs).0 ++ letters w ++ before.0 ++ 61 ∷ after.0 ++ q.0 ∷ r.0.0 ++ q.0 ∷ [] in
    let whole : cs ≡ text ++ r.0.1 =
    gap.0 ∙ ap (λ (x : List ℕ). (split_front Space cs).0 ++ x) (word_takes (letters w) (skip_space cs) b.0 b.1 ∙ ap (λ (x : List ℕ). letters w ++ x) (before.2 ∙ ap (λ (x : List ℕ). before.0 ++ x) (expected_takes 61 (skip_space b.0) c.0 c.1 ∙ ap (λ (x : List ℕ). 61 ∷ x) (after.2 ∙ ap (λ (x : List ℕ). after.0 ++ x) q.3))))
    ∙ simp append_assoc in
    let spelled : SpellsSetting w text = record {
      gap = (split_front Space cs).0;
      before = before.0;
      after = after.0;
      quote = q.0;
      value = r.0.0;
      gap_blank = gap.1;
      some = some_gap (split_front Space cs).0 cs (skip_space cs) space gap.2 gap.0;
      before_blank = before.1;
      after_blank = after.1;
      quotes = q.1;
      inside = q.2;
      fitting = f.0;
      whole = refl;
    } in
    (text, spelled, whole ∙ ap (λ (x : List ℕ). text ++ x) (is_it r.0.1 rest f.1))

optional_takes : (w : Word) (cs rest : List ℕ) → optional_at w cs ≡ Ok rest → (text : List ℕ) × SpellsOptional w text × (cs ≡ text ++ rest)
unfolding optional_at
optional_takes w cs rest e =
    elim (chosen (begins w (skip_space cs)) (required_at w cs) (done cs) (Ok rest) e) [
      | inl h ↦ let k = required_takes w cs rest h.1 in (k.0, inr k.1, k.2)
      | inr h ↦ ([], inl refl, is_it cs rest h.1)
    ]

settings_takes : (cs rest : List ℕ) → settings_at cs ≡ Ok rest → (text : List ℕ) × SpellsDeclaration (letters Declaration ++ text) × (cs ≡ text ++ rest)
unfolding settings_at
settings_takes cs rest e =
    let a = bind_ok (required_at Version cs) (λ version. optional_at Encoding version >>= λ encoding. optional_at Standalone encoding >>= λ standalone. word_at DeclarationEnd (skip_space standalone)) rest e in
    let b = bind_ok (optional_at Encoding a.0) (λ encoding. optional_at Standalone encoding >>= λ standalone. word_at DeclarationEnd (skip_space standalone)) rest a.2 in
    let c = bind_ok (optional_at Standalone b.0) (λ standalone. word_at DeclarationEnd (skip_space standalone)) rest b.2 in
    let version = required_takes Version cs a.0 a.1 in
    let encoding = optional_takes Encoding a.0 b.0 b.1 in
    let standalone = optional_takes Standalone b.0 c.0 c.1 in
    let gap = skip_takes c.0 in
    let text : List ℕ = version.0 ++ encoding.0 ++ standalone.0 ++ gap.0 ++ letters DeclarationEnd in
    let whole : cs ≡ text ++ rest =
    version.2 ∙ ap (λ (x : List ℕ). version.0 ++ x) (encoding.2 ∙ ap (λ (x : List ℕ). encoding.0 ++ x) (standalone.2 ∙ ap (λ (x : List ℕ). standalone.0 ++ x) (gap.2 ∙ ap (λ (x : List ℕ). gap.0 ++ x) (word_takes (letters DeclarationEnd) (skip_space c.0) rest c.2))))
    ∙ simp append_assoc in
    (text, record { version = version.0; encoding = encoding.0; standalone = standalone.0; gap = gap.0; version_fits = version.1; encoding_fits = encoding.1; standalone_fits = standalone.1; gap_blank = gap.1; whole = refl }, whole)

pub declaration_takes : (cs rest : List ℕ) → declaration_at cs ≡ Ok rest → (text : List ℕ) × ((text ≡ []) ⊎ SpellsDeclaration text) × (cs ≡ text ++ rest)
unfolding declaration_at
declaration_takes cs rest e =
    elim (chosen (begins Declaration cs) (word_at Declaration cs >>= λ after. settings_at after) (done cs) (Ok rest) e) [
      | inl h ↦
          let a = bind_ok (word_at Declaration cs) (λ after. settings_at after) rest h.1 in
          let k = settings_takes a.0 rest a.2 in
          (letters Declaration ++ k.0, inr k.1, word_takes (letters Declaration) cs a.0 a.1 ∙ ap (λ (x : List ℕ). letters Declaration ++ x) k.2)
      | inr h ↦ ([], inl refl, is_it cs rest h.1)
    ]
