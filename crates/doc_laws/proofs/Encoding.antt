-- Characters that stand for themselves in a document, and their bytes.
use Rattle.std.proofs.Common.{◌≡◌, ℕ, ◌<◌, Bool, true, false, not, ◌&&◌, eqb, List, [], ◌∷◌, ◌++◌, refl, sym, ◌∙◌, arith}
use Rattle.std.specs.Prelude.{encode_utf8_all, ◌==◌}
use Rattle.std.specs.List.{list_all}
use Rattle.std.proofs.Math.Utf8.{scalar, scalars}
use Rattle.std.proofs.lemmas.Bool.Decides.{nat_tests}
use Rattle.std.proofs.lemmas.Str.{encode_ascii}
use Rattle.std.proofs.lemmas.List.Folds.{list_all-append}
use Rattle.doc_read.specs.declared.lex.Class.TheVariants.{NamePart}
use Rattle.doc_tree.specs.Characters.{is_allowed}
use Rattle.doc_read.specs.Chars.{holds}
use Rattle.doc_read.specs.Document.{line_piece, line_feeds}
use Rattle.doc_read.specs.Grammar.{IsName}
use Rattle.doc_read.proofs.Fronts.{both}

-- allowed, and no carriage return
abbrev pub safe : ℕ → Bool
safe c = is_allowed c && not (c == 13)

abbrev pub IsSafe : List ℕ → Type 0
IsSafe cs = list_all safe cs ≡ true

pub all_both : (p : ℕ → Bool) (xs ys : List ℕ) → list_all p (xs ++ ys) ≡ true → (list_all p xs ≡ true) × (list_all p ys ≡ true)
all_both p xs ys h = both (list_all p xs) (list_all p ys) (sym (list_all-append p xs ys) ∙ h)

pub all_join : (p : ℕ → Bool) (xs ys : List ℕ) → list_all p xs ≡ true → list_all p ys ≡ true → list_all p (xs ++ ys) ≡ true
all_join p xs ys a b = list_all-append p xs ys ∙ rw (a, b) refl

pub all_weaker : (p q : ℕ → Bool) → ((c : ℕ) → p c ≡ true → q c ≡ true) → (cs : List ℕ) → list_all p cs ≡ true → list_all q cs ≡ true
all_weaker p q weaker [] h = refl
all_weaker p q weaker (c ∷ cs) h =
    let k = both (p c) (list_all p cs) h in
    rw (weaker c k.0) (all_weaker p q weaker cs k.1)

safe_allowed : (c : ℕ) → safe c ≡ true → is_allowed c ≡ true
safe_allowed c h = (both (is_allowed c) (not (eqb c 13)) h).0

allowed_scalar : (c : ℕ) → is_allowed c ≡ true → scalar c ≡ true
allowed_scalar c h = grind (arith, nat_tests)

pub are_allowed : (cs : List ℕ) → IsSafe cs → list_all is_allowed cs ≡ true
are_allowed cs h = all_weaker safe is_allowed safe_allowed cs h

pub are_scalars : (cs : List ℕ) → list_all is_allowed cs ≡ true → scalars cs ≡ true
are_scalars [] h = refl
are_scalars (c ∷ cs) h =
    let k = both (is_allowed c) (list_all is_allowed cs) h in
    rw (allowed_scalar c k.0) (are_scalars cs k.1)

not_true : (b : Bool) → not b ≡ true → b ≡ false
not_true true h = absurd cc
not_true false h = refl

pub lines_same : (cs : List ℕ) → IsSafe cs → line_feeds false cs ≡ cs
unfolding line_feeds line_piece
lines_same [] h = refl
lines_same (c ∷ cs) h =
    let k = both (safe c) (list_all safe cs) h in
    let no = not_true (eqb c 13) (both (is_allowed c) (not (eqb c 13)) k.0).1 in
    rw (no, lines_same cs k.1) refl

part_ascii : (c : ℕ) → holds NamePart c ≡ true → c < 128
part_ascii c h = grind (arith, nat_tests)

part_safe : (c : ℕ) → holds NamePart c ≡ true → safe c ≡ true
part_safe c h = grind (arith, nat_tests)

parts_same : (cs : List ℕ) → list_all (holds NamePart) cs ≡ true → encode_utf8_all cs ≡ cs
parts_same [] h = refl
parts_same (c ∷ cs) h =
    let k = both (holds NamePart c) (list_all (holds NamePart) cs) h in
    rw (encode_ascii c (part_ascii c k.0), parts_same cs k.1) refl

pub name_same : (n : List ℕ) → IsName n → encode_utf8_all n ≡ n
name_same n is = parts_same n is.each

pub name_safe : (n : List ℕ) → IsName n → IsSafe n
name_safe n is = all_weaker (holds NamePart) safe part_safe n is.each
