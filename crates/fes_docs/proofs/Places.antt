-- The text that is written for a literal reads back: as the same parameter, or as the same value and as no parameter.
use Rattle.std.proofs.Common.{◌≡◌, ℕ, ◌<◌, Bool, true, false, List, [], ◌∷◌, ◌++◌, length, get_or, Option, Some, None, Result, Ok, Err, refl, sym, ap, subst, ◌∙◌, arith}
use Rattle.std.specs.Prelude.{slice_get, ◌==◌}
use Rattle.wfs_ends.specs.Ends.{joined}
use Rattle.wfs_ends.proofs.Turns.{ok_is}
use Rattle.feature_values.specs.Reads.{read_as}
use Rattle.feature_values.specs.declared.schema.ValueKind.{ValueKind}
use Rattle.feature_values.specs.declared.schema.ValueKind.TheVariants as Kind
use Rattle.feature_values.specs.declared.value.Value.{Value}
use Rattle.feature_values.specs.declared.value.Value.TheVariants.{Words}
use Rattle.feature_values.specs.declared.fault.ValueFault.{ValueFault}
use Rattle.fes_filter.specs.declared.expr.Expr.{Expr}
use Rattle.fes_filter.specs.declared.expr.Expr.TheVariants.{Literal, Parameter}
use Rattle.fes_docs.specs.declared.fault.FilterDocFault.{FilterDocFault}
use Rattle.fes_docs.specs.Uses.{not_empty, name_in, place_named, or_undeclared, place_if, place_of}
use Rattle.fes_docs.specs.Sides.{or_types, literal_as}
use Rattle.fes_docs.specs.Written.{truth_text, value_text, use_of, place_text}
use Rattle.fes_docs.proofs.Edges.{last_found}
use Rattle.fes_docs.proofs.Named.{some_is, and_then_some, first_named}
use Rattle.fes_docs.proofs.Values.{value_again, whole_read, truth_read, starts_otherwise}

-- ---- parameters

-- a name in a text has a character or more
not_empty_is : (text name : List ℕ) → not_empty text ≡ Some name → not_empty name ≡ Some name
not_empty_is [] name e = absurd cc
not_empty_is (b ∷ bs) name e = ap not_empty (sym (some_is (b ∷ bs) name e)) ∙ e

name_some : (text name : List ℕ) → name_in text ≡ Some name → not_empty name ≡ Some name
unfolding name_in
name_some text name e =
    let read = and_then_some not_empty _ name e in
    not_empty_is read.0 name read.2

use_parts : (name : List ℕ) → use_of name ≡ 36 ∷ 123 ∷ (name ++ 125 ∷ [])
unfolding use_of joined
use_parts name = refl

named_in_use : (name : List ℕ) → not_empty name ≡ Some name → name_in (use_of name) ≡ Some name
unfolding name_in
named_in_use name some =
    rw (use_parts name, last_found 125 name) some

-- a text that stands for the parameter at this place
pub record IsUse (parameters : Option (List (List ℕ))) (text : List ℕ) (place : ℕ) : Type 0 where
  pub names : List (List ℕ)
  pub listed : parameters ≡ Some names
  pub name : List ℕ
  pub named : name_in text ≡ Some name
  pub at : place_named names name ≡ Some place

declared_is : (name : List ℕ) (r : Option ℕ) (place : ℕ) → or_undeclared name r ≡ Ok (Some place) → r ≡ Some place
declared_is name None place e = absurd cc
declared_is name (Some other) place e = ok_is FilterDocFault (Some other) (Some place) e

use_in : (names : List (List ℕ)) (text : List ℕ) (place : ℕ) (r : Option (List ℕ)) → name_in text ≡ r → place_if names r ≡ Ok (Some place) → IsUse (Some names) text place
use_in names text place None is e = absurd cc
use_in names text place (Some name) is e = record { names = names; listed = refl; name = name; named = is; at = declared_is name (place_named names name) place e }

use_is : (parameters : Option (List (List ℕ))) (text : List ℕ) (place : ℕ) → place_of parameters text ≡ Ok (Some place) → IsUse parameters text place
unfolding place_of
use_is None text place e = absurd cc
use_is (Some names) text place e = use_in names text place (name_in text) refl e

name_at : (names : List (List ℕ)) (name : List ℕ) (place : ℕ) → place_named names name ≡ Some place → slice_get names place ≡ Some name
unfolding place_named
name_at names name place e =
    let one = first_named (λ n. n) name place names e in
    one.1 ∙ ap Some one.2

use_again : (names : List (List ℕ)) (name : List ℕ) (place : ℕ) → not_empty name ≡ Some name → place_named names name ≡ Some place
    → place_of (Some names) (place_text (Some names) place) ≡ Ok (Some place)
unfolding place_of
use_again names name place some at = rw (name_at names name place at, named_in_use name some, at) refl

-- the text that is written for a parameter
pub place_again : (parameters : Option (List (List ℕ))) (text : List ℕ) (place : ℕ) → place_of parameters text ≡ Ok (Some place) → place_of parameters (place_text parameters place) ≡ Ok (Some place)
place_again parameters text place e =
    let u = use_is parameters text place e in
    rw u.listed (use_again u.names u.name place (name_some text u.name u.named) u.at)

-- ---- values stand for no parameter

pub no_use : (parameters : Option (List (List ℕ))) (text : List ℕ) → name_in text ≡ None → place_of parameters text ≡ Ok None
unfolding place_of
no_use None text e = refl
no_use (Some names) text e = rw e refl

pub starts_not : (b : ℕ) (bs : List ℕ) → (b == 36) ≡ false → name_in (b ∷ bs) ≡ None
unfolding name_in
starts_not b bs e = rw e refl

whole_starts : (text : List ℕ) → 0 < length text → (get_or text 0 0 == 36) ≡ false → name_in text ≡ None
whole_starts [] some e = absurd (omega (arith, some))
whole_starts (b ∷ bs) some e = starts_not b bs e

truth_starts : (b : Bool) → name_in (truth_text b) ≡ None
truth_starts true = starts_not 116 _ refl
truth_starts false = starts_not 102 _ refl

value_no_use : (parameters : Option (List (List ℕ))) (kind : ValueKind) (text : List ℕ) (v : Value) → place_of parameters text ≡ Ok None → read_as kind text ≡ Ok v → place_of parameters (value_text v) ≡ Ok None
unfolding read_as
value_no_use parameters Kind.Words text v none e = ap (λ w. place_of parameters (value_text w)) (sym (ok_is ValueFault (Words text) v e)) ∙ none
value_no_use parameters Kind.Whole text v none e =
    let read = whole_read text v e in
    rw read.1 (no_use parameters _ (whole_starts _ (starts_otherwise read.0 read.2).0 (starts_otherwise read.0 read.2).1))
value_no_use parameters Kind.Truth text v none e =
    let read = truth_read text v e in
    rw read.1 (no_use parameters _ (truth_starts read.0))
value_no_use parameters Kind.Point text v none e = absurd cc
value_no_use parameters Kind.Line text v none e = absurd cc
value_no_use parameters Kind.Polygon text v none e = absurd cc

-- ---- literals

-- the text of a Literal
abbrev pub literal_text : Option (List (List ℕ)) → Expr → List ℕ
literal_text parameters (Literal value) = value_text value
literal_text parameters (Parameter place) = place_text parameters place
literal_text parameters property = []

-- it is written as a Literal
abbrev pub IsLiteral : Expr → Type 0
IsLiteral (Literal value) = Unit {0}
IsLiteral (Parameter place) = Unit {0}
IsLiteral property = ⊥

types_is : (name : List ℕ) (r : Result Value ValueFault) (x : Expr) → or_types name r ≡ Ok x → (v : Value) × (r ≡ Ok v) × (x ≡ Literal v)
types_is name (Ok v) x e = (v, refl, sym (ok_is FilterDocFault (Literal v) x e))
types_is name (Err fault) x e = absurd cc

-- it reads back beside a property of the same kind
pub record Again (parameters : Option (List (List ℕ))) (kind : ValueKind) (place : Option ℕ) (x : Expr) : Type 0 where
  pub written : IsLiteral x
  pub place_is : place_of parameters (literal_text parameters x) ≡ Ok place
  pub value_is : (name : List ℕ) → literal_as kind name place (literal_text parameters x) ≡ Ok x

pub literal_again : (parameters : Option (List (List ℕ))) (kind : ValueKind) (name text : List ℕ) (place : Option ℕ) (x : Expr)
    → place_of parameters text ≡ Ok place → literal_as kind name place text ≡ Ok x → Again parameters kind place x
literal_again parameters kind name text (Some place) x at e =
    let x_is : Parameter place ≡ x = ok_is FilterDocFault (Parameter place) x e in
    subst (Again parameters kind (Some place)) x_is (record { written = tt; place_is = place_again parameters text place at; value_is = λ other. refl })
literal_again parameters kind name text None x at e =
    let read = types_is name (read_as kind text) x e in
    subst (Again parameters kind None) (sym read.2) (record {
      written = tt;
      place_is = value_no_use parameters kind text read.0 at read.1;
      value_is = λ other. ap (or_types other) (value_again kind text read.0 read.1);
    })
