-- What clap makes of all the words of serve is what the lists make of them.
use Rattle.std.proofs.Common.{◌≡◌, true, false, not, ◌&&◌, ◌||◌, refl, sym, ap, ◌∙◌, List, [], ◌∷◌, map, length, codes, Option, Some, None, option_map, Bool, ◌==◌, cond, inl, inr}
use Rattle.std.proofs.lemmas.Bool.{cases_Bool, false≢true}
use Rattle.std.specs.Prelude.{is_some}
use Rattle.std.specs.List.{fold}
use Rattle.std.specs.Str.{bytes_eq}
use Rattle.clap.specs.Words.{Text, Row, Kinds, built, fault_of, matches_of, first_of}
use Rattle.clap.specs.Walk.{Walk, settled_rows, finished, with_default, has_row, nothing_held}
use Rattle.clap.specs.Simple.{entered}
use Rattle.clap.specs.Takes.{is_given}
use Rattle.clap.specs.declared.error.kind.ErrorKind.TheVariants as kind
use Rattle.std.proofs.Common.{arith, ◌-◌}
use Rattle.std.proofs.lemmas.Bool.{and_parts}
use Rattle.std.proofs.lemmas.Slice.Eq.{bytes_eq-Decides}
use Rattle.std.specs.List.{list_all}
use Rattle.clap.specs.Lexer.{long_of}
use Rattle.std.proofs.lemmas.Bool.Decides.{nat_tests}
use Rattle.clap.specs.Kinds.{or_else}
use Rattle.clap.specs.Faults.{walk_fault, settle_fault, default_fault, defaults_fault, check_fault, level_fault, entered_fault}
use Rattle.wfs_words.specs.ByClap.{serve_app, clap_texts, texts_in}
use Rattle.wfs_words.specs.declared.options.Name.{Name}
use Rattle.wfs_words.specs.declared.options.Name.TheVariants.{Listen as listen, Workers as workers, Connections as connections, Directory as dir}
use Rattle.wfs_words.specs.Words.{is_fit}
use Rattle.wfs_words.proofs.Lists.{name_text, Given, has, lookup, complete, completed, texts_from, read_list}
use Rattle.wfs_words.proofs.Serving.{top, rules, rule, row, state, none, none_both, end, AllFit, Fit, plain, flag, serve_reads}

cond_same : {A : Type 0} (b : Bool) (x : A) → cond b x x ≡ x
cond_same true x = refl
cond_same false x = refl

any_or_true : (b : Bool) → (b || true) ≡ true
any_or_true true = refl
any_or_true false = refl

-- no argument has a default
one_default : (n : Name) (rows : List Row) → with_default rows (rule n) ≡ rows
one_default listen rows = cond_same (has_row (name_text listen) rows) rows
one_default workers rows = cond_same (has_row (name_text workers) rows) rows
one_default connections rows = cond_same (has_row (name_text connections) rows) rows
one_default dir rows = cond_same (has_row (name_text dir) rows) rows

one_fault : (n : Name) (rows : List Row) → default_fault rows (rule n) ≡ []
one_fault listen rows = rw (any_or_true (has_row (name_text listen) rows)) refl
one_fault workers rows = rw (any_or_true (has_row (name_text workers) rows)) refl
one_fault connections rows = rw (any_or_true (has_row (name_text connections) rows)) refl
one_fault dir rows = rw (any_or_true (has_row (name_text dir) rows)) refl

no_defaults : (rows : List Row) → fold with_default rows rules ≡ rows
no_defaults rows = rw (one_default listen rows, one_default workers rows, one_default connections rows, one_default dir rows) refl

no_default_fault : (rows : List Row) → defaults_fault rows rules ≡ []
unfolding defaults_fault
no_default_fault rows =
    rw (one_default listen rows, one_default workers rows, one_default connections rows, one_fault listen rows, one_fault workers rows, one_fault connections rows, one_fault dir rows) refl

-- the last steps
four : (w s d c : Kinds) → d ≡ [] → none (or_else w (or_else [] (or_else s (or_else d c)))) ≡ (none w && (none s && none c))
four w s d c e =
    none_both w (or_else s (or_else d c)) ∙ ap (λ k. none w && k) (none_both s (or_else d c) ∙ ap (λ k. none s && none (or_else k c)) e)

abbrev last : List Text → Walk
last words = end (state [] None 1) words

abbrev rows_at_end : List Text → List Row
rows_at_end words = settled_rows rules (last words).held.pending (last words).held.rows

last_steps : (words : List Text) (stop : Option (Text × List Text))
    → none (level_fault top [] nothing_held words (is_some (entered (built serve_app) stop)) (entered_fault (built serve_app) stop))
    ≡ (none (walk_fault top [] (state [] None 1) words) && (none (settle_fault rules false (last words).held)
    && none (check_fault top (finished rules (last words).held) false)))
last_steps words None =
    four (walk_fault top [] (state [] None 1) words) (settle_fault rules false (last words).held) (defaults_fault (rows_at_end words) rules) (check_fault top (finished rules (last words).held) false) (no_default_fault (rows_at_end words))
last_steps words (Some p) =
    four (walk_fault top [] (state [] None 1) words) (settle_fault rules false (last words).held) (defaults_fault (rows_at_end words) rules) (check_fault top (finished rules (last words).held) false) (no_default_fault (rows_at_end words))

first_is : (n : Name) (given : Given) → first_of (name_text n) (map row given) ≡ lookup n given
first_is n [] = refl
first_is n (p ∷ given) =
    elim (cases_Bool (bytes_eq (name_text p.0) (name_text n))) [
      | inl here ↦ rw here refl
      | inr other ↦ rw other (first_is n given)
    ]

given_is : (n : Name) (given : Given) → is_given (name_text n) (map row given) ≡ has n given
given_is n [] = refl
given_is n (p ∷ given) =
    elim (cases_Bool (bytes_eq (name_text p.0) (name_text n))) [
      | inl here ↦ rw here refl
      | inr other ↦ rw other (given_is n given)
    ]

check_is : (given : Given) → none (check_fault top (map row given) false) ≡ complete given
check_is given = rw (given_is listen given, given_is workers given, given_is dir given) (all_three (has listen given) (has workers given) (has dir given))
  where
    all_three : (a b c : Bool) → none (cond (not a || (not b || (not c || false))) (kind.MissingRequiredArgument ∷ []) []) ≡ (a && (b && c))
    all_three true true true = refl
    all_three true true false = refl
    all_three true false c = refl
    all_three false b c = refl

length_none : (k : Kinds) → (length k == 0) ≡ none k
length_none [] = refl
length_none (k ∷ ks) = grind (arith, nat_tests)

given_rows : (given : Given) → texts_in (map row given) ≡ texts_from given
given_rows given = rw (first_is listen given, first_is workers given, first_is connections given, first_is dir given) refl

finish : (w s k : Bool) (r m : List Row) (o : Option Given) → cond (w && s) (Some r) None ≡ option_map (map row) o → k ≡ none (check_fault top m false) → m ≡ r
    → cond (w && (s && k)) (Some (texts_in m)) None ≡ completed o
finish true true k r m None e ke me = cc
finish true true k r m (Some given) e ke me =
    let same : m ≡ map row given = me ∙ inside e in
    rw (ke, same, check_is given, given_rows given) refl
  where
    inside : {x y : List Row} → Some x ≡ Some y → x ≡ y
    inside h = cc
finish true false k r m None e ke me = refl
finish true false k r m (Some given) e ke me = cc
finish false s k r m None e ke me = refl
finish false s k r m (Some given) e ke me = cc

-- the law
pub serve_law : (c : Text) (words : List Text) → AllFit words → clap_texts (c ∷ words) ≡ completed (read_list None [] words)
unfolding clap_texts
serve_law c words fit =
    rw (length_none (fault_of serve_app (c ∷ words)), last_steps words (last words).stopped)
    (finish (none (walk_fault top [] (state [] None 1) words)) (none (settle_fault rules false (last words).held)) _ (rows_at_end words) (matches_of serve_app (c ∷ words)) (read_list None [] words)
    (serve_reads words fit) refl (no_defaults (rows_at_end words)))

-- ---- the test in front

is_not : (b : Bool) → not b ≡ true → b ≡ false
is_not true h = cc
is_not false h = refl

chosen : (b x y : Bool) → b ≡ true → cond b x y ≡ true → x ≡ true
chosen true x y e h = h
chosen false x y e h = cc

long_is : (word : Text) (o : Option (Text × Option Text)) → long_of word ≡ o → is_some o ≡ true → bytes_eq word (codes "--") ≡ false → Fit word
long_is word None l fits e = cc
long_is word (Some p) l fits e = flag p.0 p.1 e l

not_dashes : (word : Text) → bytes_eq word (codes "--") ≡ true → is_some (long_of word) ≡ false
not_dashes word e = rw ((bytes_eq-Decides word (codes "--")).0 e) refl

clash : (b : Bool) → b ≡ false → b ≡ true → ⊥
clash true e h = absurd (apart_bits e)
  where
    apart_bits : true ≡ false → ⊥
    apart_bits k = false≢true (sym k)
clash false e h = absurd (false≢true h)

pub fit_is : (word : Text) → is_fit word ≡ true → Fit word
fit_is [] fits = cc
fit_is (b ∷ rest) fits =
    elim (cases_Bool (b == 45)) [
      | inl hyphen ↦
          let long : is_some (long_of (b ∷ rest)) ≡ true = chosen (b == 45) _ true hyphen fits in
          elim (cases_Bool (bytes_eq (b ∷ rest) (codes "--"))) [
            | inl dashes ↦ absurd (clash _ (not_dashes (b ∷ rest) dashes) long)
            | inr other ↦ long_is (b ∷ rest) (long_of (b ∷ rest)) refl long other
          ]
      | inr other ↦ plain (record { dashes = rw other refl; long = rw other refl; short = rw other refl })
    ]

pub all_fit : (words : List Text) → list_all is_fit words ≡ true → AllFit words
all_fit [] all = tt
all_fit (word ∷ words) all = let parts = and_parts (is_fit word) (list_all is_fit words) all in (fit_is word parts.0, all_fit words parts.1)
