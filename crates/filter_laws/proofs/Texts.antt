-- Numbers and names are texts that a document may hold.
use Rattle.std.proofs.Common.{◌≡◌, ℕ, zero, suc, ◌<◌, Bool, true, false, List, [], ◌∷◌, refl, arith}
use Rattle.std.specs.Prelude.{ℤ, pos, negsuc, decimal, ◌==◌, ◌/◌, ◌%◌, if◌then◌else◌}
use Rattle.std.specs.List.{list_all, flat_map}
use Rattle.std.specs.Fmt.{digit_glyph, digits, digits_onto, signed_decimal}
use Rattle.std.proofs.lemmas.List.Concat.{flat_map-cons}
use Rattle.std.proofs.lemmas.Bool.Decides.{nat_tests}
use Rattle.wfs_ends.specs.Ends.{joined}
use Rattle.doc_read.specs.declared.lex.Class.TheVariants.{NameStart, NamePart}
use Rattle.doc_read.specs.Chars.{holds}
use Rattle.doc_read.specs.Grammar.{IsName}
use Rattle.doc_read.proofs.Fronts.{both}
use Rattle.doc_laws.proofs.Facts.{Meant, meant_then}
use Rattle.doc_laws.proofs.Sizes.{is_visible, no_text, visible_meant}
use Rattle.geom_core.specs.Plane.{Point}
use Rattle.gml_docs.specs.Written.{position_text, next_text, positions_text}
use Rattle.feature_schema.specs.Texts.{is_name_start, is_name_byte, is_name}

abbrev AreVisible : List ℕ → Type 0
AreVisible bs = list_all is_visible bs ≡ true

-- ---- numbers

glyph : (d : ℕ) → d < 10 → is_visible (digit_glyph false d) ≡ true
glyph d lt = grind (arith, nat_tests)

visible_cons : (b : ℕ) (bs : List ℕ) → is_visible b ≡ true → AreVisible bs → AreVisible (b ∷ bs)
visible_cons b bs h rest = rw (h, rest) refl

digits_visible : (k n : ℕ) (acc : List ℕ) → AreVisible acc → AreVisible (digits_onto k 10 false n acc)
digits_visible zero n acc h = h
digits_visible (suc k) n acc h =
    let one = visible_cons (digit_glyph false (n % 10)) acc (glyph (n % 10) (omega arith)) h in
    by (n / 10 == 0) one (digits_visible k (n / 10) (digit_glyph false (n % 10) ∷ acc) one)
  where
    by : (t : Bool) → AreVisible (digit_glyph false (n % 10) ∷ acc) → AreVisible (digits_onto k 10 false (n / 10) (digit_glyph false (n % 10) ∷ acc))
        → AreVisible (if t then digit_glyph false (n % 10) ∷ acc else digits_onto k 10 false (n / 10) (digit_glyph false (n % 10) ∷ acc))
    by true one more = one
    by false one more = more

decimal_visible : (n : ℕ) → AreVisible (decimal n)
unfolding digits
decimal_visible n = digits_visible 64 n [] refl

pub decimal_meant : (n : ℕ) → Meant (decimal n)
decimal_meant n = visible_meant (decimal n) (decimal_visible n)

pub number_meant : (z : ℤ) → Meant (signed_decimal z)
number_meant (pos n) = decimal_meant n
number_meant (negsuc n) = visible_meant (45 ∷ decimal (suc n)) (visible_cons 45 (decimal (suc n)) refl (decimal_visible (suc n)))

-- ---- positions

space_meant : Meant (32 ∷ [])
space_meant = visible_meant (32 ∷ []) refl

pub position_meant : (p : Point) → Meant (position_text p)
unfolding position_text joined
position_meant p = meant_then _ _ (number_meant p.x) (meant_then _ _ space_meant (meant_then _ _ (number_meant p.y) no_text))

rest_meant : (ps : List Point) → Meant (flat_map next_text ps)
unfolding next_text
rest_meant [] = no_text
rest_meant (p ∷ ps) = rw (flat_map-cons next_text p ps) (meant_then _ _ (meant_then _ _ space_meant (position_meant p)) (rest_meant ps))

pub positions_meant : (ps : List Point) → Meant (positions_text ps)
unfolding positions_text
positions_meant [] = no_text
positions_meant (p ∷ ps) = meant_then _ _ (position_meant p) (rest_meant ps)

-- ---- names of a schema

start_is : (c : ℕ) → is_name_start c ≡ true → holds NameStart c ≡ true
unfolding is_name_start
start_is c h = grind (arith, nat_tests, h)

part_is : (c : ℕ) → is_name_byte c ≡ true → holds NamePart c ≡ true
unfolding is_name_byte is_name_start
part_is c h = grind (arith, nat_tests, h)

start_part : (c : ℕ) → holds NameStart c ≡ true → holds NamePart c ≡ true
start_part c h = grind (arith, nat_tests, h)

parts_are : (cs : List ℕ) → list_all is_name_byte cs ≡ true → list_all (holds NamePart) cs ≡ true
parts_are [] h = refl
parts_are (c ∷ cs) h =
    let k = both (is_name_byte c) (list_all is_name_byte cs) h in
    rw (part_is c k.0) (parts_are cs k.1)

-- a name of a schema is one of documents
pub schema_name : (name : List ℕ) → is_name name ≡ true → IsName name
unfolding is_name
schema_name [] h = absurd cc
schema_name (c ∷ cs) h =
    let k = both (is_name_start c) _ h in
    let rest = both (list_all is_name_byte cs) _ k.1 in
    let first = start_is c k.0 in
    record { first = first; each = rw (start_part c first) (parts_are cs rest.0) }

part_visible : (c : ℕ) → holds NamePart c ≡ true → is_visible c ≡ true
part_visible c h = grind (arith, nat_tests, h)

parts_visible : (cs : List ℕ) → list_all (holds NamePart) cs ≡ true → AreVisible cs
parts_visible [] h = refl
parts_visible (c ∷ cs) h =
    let k = both (holds NamePart c) (list_all (holds NamePart) cs) h in
    rw (part_visible c k.0) (parts_visible cs k.1)

pub name_meant : (name : List ℕ) → IsName name → Meant name
name_meant name is = visible_meant name (parts_visible name is.each)
