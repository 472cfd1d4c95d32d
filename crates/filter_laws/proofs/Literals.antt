-- Literals that are read are texts that a document may hold, and so are the characters of patterns.
use Rattle.std.proofs.Common.{◌≡◌, ℕ, Bool, true, false, ◌||◌, List, [], ◌∷◌, ◌++◌, fold, Option, Some, None, Result, Ok, Err, refl, sym, ap, subst, ◌∙◌, arith}
use Rattle.std.specs.Prelude.{codes, encode_utf8, slice_get, All, IfSome, ◌==◌, if◌then◌else◌}
use Rattle.std.specs.List.{list_all, flat_map}
use Rattle.std.specs.Char.{IsScalar}
use Rattle.std.specs.Str.{chars}
use Rattle.std.proofs.lemmas.Bool.Decides.{nat_tests}
use Rattle.std.proofs.lemmas.List.Concat.{flat_map-cons}
use Rattle.std.proofs.lemmas.List.Elements.{All-nil, All-cons, All-append}
use Rattle.std.proofs.lemmas.List.Folds.{list_all-append}
use Rattle.std.proofs.lemmas.Str.{chars-encodes}
use Rattle.wfs_ends.specs.Ends.{joined}
use Rattle.wfs_ends.proofs.Turns.{ok_is}
use Rattle.doc_tree.specs.Characters.{is_allowed}
use Rattle.doc_read.proofs.Fronts.{both}
use Rattle.doc_laws.specs.InDocument.{is_text}
use Rattle.doc_laws.proofs.Encoding.{are_scalars}
use Rattle.doc_laws.proofs.Facts.{Meant, meant_then, meant_one}
use Rattle.doc_laws.proofs.Sizes.{no_text, text_meant, visible_meant}
use Rattle.feature_values.specs.Reads.{read_as}
use Rattle.feature_values.specs.declared.schema.ValueKind.{ValueKind}
use Rattle.feature_values.specs.declared.schema.ValueKind.TheVariants as Kind
use Rattle.feature_values.specs.declared.value.Value.{Value}
use Rattle.feature_values.specs.declared.value.Value.TheVariants.{Words}
use Rattle.feature_values.specs.declared.fault.ValueFault.{ValueFault}
use Rattle.fes_filter.specs.declared.expr.Expr.{Expr}
use Rattle.fes_filter.specs.declared.expr.Expr.TheVariants.{Literal, Parameter}
use Rattle.fes_filter.specs.declared.pattern.LikePart.{LikePart}
use Rattle.fes_filter.specs.declared.pattern.LikePart.TheVariants.{Exactly, One, Many}
use Rattle.fes_docs.specs.declared.like.Marks.{Marks}
use Rattle.fes_docs.specs.declared.fault.FilterDocFault.{FilterDocFault}
use Rattle.fes_docs.specs.Sides.{or_types, literal_as}
use Rattle.fes_docs.specs.Like.{bad_marks, part_of, next_part, pattern_of}
use Rattle.fes_docs.specs.Written.{truth_text, value_text, use_of, use_if, place_text, part_text}
use Rattle.fes_docs.specs.RoundTrip.{part_characters}
use Rattle.fes_docs.proofs.Places.{literal_text}
use Rattle.fes_docs.proofs.Values.{whole_read, truth_read}
use Rattle.filter_laws.proofs.Texts.{number_meant}
use Rattle.filter_laws.proofs.Schemas.{at_place}

-- ---- parameters

abbrev pub AreTexts : List (List ℕ) → Type 0
AreTexts names = All (λ name. is_text name ≡ true) names

use_meant : (name : Option (List ℕ)) → IfSome name (λ name. is_text name ≡ true) → Meant (use_if name)
unfolding use_of joined
use_meant None is = no_text
use_meant (Some name) is = meant_then _ _ (visible_meant (codes "${") refl) (meant_then _ _ (text_meant name is) (meant_then _ _ (visible_meant (codes "}") refl) no_text))

pub place_meant : (names : List (List ℕ)) (place : ℕ) → AreTexts names → Meant (place_text (Some names) place)
place_meant names place all = use_meant (slice_get names place) (at_place (λ name. is_text name ≡ true) names place all)

-- ---- values

truth_meant : (b : Bool) → Meant (truth_text b)
truth_meant true = visible_meant (codes "true") refl
truth_meant false = visible_meant (codes "false") refl

value_meant : (kind : ValueKind) (text : List ℕ) (v : Value) → read_as kind text ≡ Ok v → Meant text → Meant (value_text v)
unfolding read_as
value_meant Kind.Words text v h meant = subst (λ (w : Value). Meant (value_text w)) (ok_is ValueFault (Words text) v h) meant
value_meant Kind.Whole text v h meant = let read = whole_read text v h in subst (λ (w : Value). Meant (value_text w)) (sym read.1) (number_meant read.0)
value_meant Kind.Truth text v h meant = let read = truth_read text v h in subst (λ (w : Value). Meant (value_text w)) (sym read.1) (truth_meant read.0)
value_meant Kind.Point text v h meant = absurd cc
value_meant Kind.Line text v h meant = absurd cc
value_meant Kind.Polygon text v h meant = absurd cc

-- the text that is written for a side of a comparison, where that is a literal
abbrev pub IsMeant : List (List ℕ) → Expr → Type 0
IsMeant names x = Meant (literal_text (Some names) x)

typed : (names : List (List ℕ)) (kind : ValueKind) (name text : List ℕ) (r : Result Value ValueFault) (x : Expr) → read_as kind text ≡ r → or_types name r ≡ Ok x → Meant text → IsMeant names x
typed names kind name text (Ok v) x is h meant = subst (IsMeant names) (ok_is FilterDocFault (Literal v) x h) (value_meant kind text v is meant)
typed names kind name text (Err fault) x is h meant = absurd cc

pub literal_meant : (names : List (List ℕ)) (kind : ValueKind) (name : List ℕ) (place : Option ℕ) (text : List ℕ) (x : Expr) → AreTexts names → literal_as kind name place text ≡ Ok x → Meant text → IsMeant names x
literal_meant names kind name (Some place) text x all h meant = subst (IsMeant names) (ok_is FilterDocFault (Parameter place) x h) (place_meant names place all)
literal_meant names kind name None text x all h meant = typed names kind name text (read_as kind text) x refl h meant

-- ---- patterns

abbrev pub is_allowed_part : LikePart → Bool
is_allowed_part (Exactly c) = is_allowed c
is_allowed_part part = true

abbrev pub AreAllowedParts : List LikePart → Type 0
AreAllowedParts parts = list_all is_allowed_part parts ≡ true

abbrev Found : Type 0
Found = List LikePart × Bool

pushed : (parts : List LikePart) (part : LikePart) → AreAllowedParts parts → is_allowed_part part ≡ true → AreAllowedParts (parts ++ part ∷ [])
pushed parts part all one = list_all-append is_allowed_part parts (part ∷ []) ∙ rw (all, one) refl

part_allowed : (marks : Marks) (c : ℕ) → is_allowed c ≡ true → is_allowed_part (part_of marks c) ≡ true
part_allowed marks c h = by (c == marks.many) (c == marks.one)
  where
    by : (a b : Bool) → is_allowed_part (if a then Many else (if b then One else Exactly c)) ≡ true
    by true b = refl
    by false true = refl
    by false false = h

next_allowed : (marks : Marks) (found : Found) (c : ℕ) → AreAllowedParts found.0 → is_allowed c ≡ true → AreAllowedParts (next_part marks found c).0
next_allowed marks found c all h = by found.1 (c == marks.escape)
  where
    by : (a b : Bool) → (let r : Found = if a then (found.0 ++ Exactly c ∷ [], false) else (if b then (found.0, true) else (found.0 ++ part_of marks c ∷ [], false)) in AreAllowedParts r.0)
    by true b = pushed found.0 (Exactly c) all h
    by false true = all
    by false false = pushed found.0 (part_of marks c) all (part_allowed marks c h)

fold_allowed : (marks : Marks) (cs : List ℕ) (found : Found) → AreAllowedParts found.0 → list_all is_allowed cs ≡ true → AreAllowedParts (fold (next_part marks) found cs).0
fold_allowed marks [] found all h = all
fold_allowed marks (c ∷ cs) found all h =
    let k = both (is_allowed c) (list_all is_allowed cs) h in
    fold_allowed marks cs (next_part marks found c) (next_allowed marks found c all k.0) k.1

pub pattern_allowed : (marks : Marks) (text : List ℕ) (parts : List LikePart) → pattern_of marks text ≡ Ok parts → Meant text → AreAllowedParts parts
unfolding pattern_of
pattern_allowed marks text parts h meant =
    let found : Found = fold (next_part marks) ([], false) (chars text) in
    let are : list_all is_allowed (chars text) ≡ true = ap (λ t. list_all is_allowed (chars t)) meant.is ∙ ap (list_all is_allowed) (chars-encodes meant.characters (are_scalars meant.characters meant.allowed)) ∙ meant.allowed in
    by found.1 found.0 h (fold_allowed marks (chars text) ([], false) refl are)
  where
    by : (b : Bool) (ps : List LikePart) → (if b then Err bad_marks else Ok ps) ≡ Ok parts → AreAllowedParts ps → AreAllowedParts parts
    by true ps h all = absurd cc
    by false ps h all = subst AreAllowedParts (ok_is FilterDocFault ps parts h) all

part_meant : (part : LikePart) → is_allowed_part part ≡ true → Meant (part_text part)
unfolding part_text
part_meant Many h = visible_meant (codes "*") refl
part_meant One h = visible_meant (codes ".") refl
part_meant (Exactly c) h = by ((c == 42) || (c == 46) || (c == 33))
  where
    by : (b : Bool) → Meant (if b then codes "!" ++ encode_utf8 c else encode_utf8 c)
    by true = meant_then _ _ (visible_meant (codes "!") refl) (meant_one c h)
    by false = meant_one c h

pub pattern_meant : (parts : List LikePart) → AreAllowedParts parts → Meant (flat_map part_text parts)
pattern_meant [] h = no_text
pattern_meant (part ∷ parts) h =
    let k = both (is_allowed_part part) (list_all is_allowed_part parts) h in
    subst Meant (sym (flat_map-cons part_text part parts)) (meant_then _ _ (part_meant part k.0) (pattern_meant parts k.1))

scalar_is : (c : ℕ) → is_allowed c ≡ true → IsScalar c
scalar_is c h = grind (arith, nat_tests, h)

part_scalars : (part : LikePart) → is_allowed_part part ≡ true → All IsScalar (part_characters part)
part_scalars Many h = All-nil IsScalar
part_scalars One h = All-nil IsScalar
part_scalars (Exactly c) h = All-cons IsScalar c [] (scalar_is c h) (All-nil IsScalar)

pub pattern_scalars : (parts : List LikePart) → AreAllowedParts parts → All IsScalar (flat_map part_characters parts)
pattern_scalars [] h = All-nil IsScalar
pattern_scalars (part ∷ parts) h =
    let k = both (is_allowed_part part) (list_all is_allowed_part parts) h in
    subst (All IsScalar) (sym (flat_map-cons part_characters part parts)) (All-append IsScalar (part_characters part) (flat_map part_characters parts) (part_scalars part k.0) (pattern_scalars parts k.1))
