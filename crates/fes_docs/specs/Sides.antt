-- Properties and literals in a filter: the sides of comparisons, and the bounds of ranges (FES 2.0, OGC 09-026r2,
-- sections 7.4, 7.5 and 7.7).
use Rattle.std.specs.Prelude.{ℕ, Bool, true, false, ◌&&◌, not, if◌then◌else◌, List, [], ◌∷◌, codes, Option, Some, None, Result, Ok, Err}
use Rattle.std.specs.Str.{bytes_eq}
use Rattle.wfs_ends.specs.Read.{◌>>=◌}
use Rattle.doc_tree.specs.declared.tree.Element.{Element, out-Element}
use Rattle.feature_values.specs.Reads.{read_as}
use Rattle.feature_values.specs.declared.schema.ValueKind.{ValueKind}
use Rattle.feature_values.specs.declared.schema.FeatureType.{FeatureType}
use Rattle.feature_values.specs.declared.value.Value.{Value}
use Rattle.feature_values.specs.declared.fault.ValueFault.{ValueFault}
use Rattle.fes_filter.specs.Check.{property_in, is_same, is_words, is_equality, is_comparable}
use Rattle.fes_filter.specs.declared.expr.Expr.{Expr}
use Rattle.fes_filter.specs.declared.expr.Expr.TheVariants.{Property, Literal, Parameter}
use Rattle.fes_filter.specs.declared.expr.By.{By}
use Rattle.fes_filter.specs.declared.expr.By.TheVariants.{Less}
use Rattle.fes_filter.specs.declared.filter.Filter.{Filter}
use Rattle.fes_filter.specs.declared.filter.Filter.TheVariants.{Compare, Between, IsNull}
use Rattle.fes_filter.specs.declared.fault.FilterFault.TheVariants.{Unknown, Types, Choice}
use Rattle.fes_docs.specs.Names.{is_fes, local_of, text_of, value_of, no_others, named, no_more, first_in, plain}
use Rattle.fes_docs.specs.Uses.{place_of}
use Rattle.fes_docs.specs.declared.fault.FilterDocFault.{FilterDocFault}
use Rattle.fes_docs.specs.declared.fault.FilterDocFault.TheVariants.{Operator, Shape, Checked}

-- ---- properties

abbrev pub or_unknown : List ℕ → Option (ℕ × ValueKind) → Result (ℕ × ValueKind) FilterDocFault
or_unknown name None = Err (Checked Unknown name)
or_unknown name (Some found) = Ok found

-- a ValueReference, and the property that it names
unfoldable pub property_at : Option FeatureType → Element → Result (ℕ × ValueKind) FilterDocFault
property_at of_type e = do
  _ ← plain e
  or_unknown (text_of e) (property_in of_type (text_of e))

-- what has to hold of the property that a ValueReference names
unfoldable pub suited : Bool → Element → Result (Unit {0}) FilterDocFault
suited holds e = if holds then Ok tt else Err (Checked Types (text_of e))

-- one whose values are compared so
unfoldable pub comparable_at : Option FeatureType → By → Element → Result (ℕ × ValueKind) FilterDocFault
comparable_at of_type by e = do
  p ← property_at of_type e
  _ ← suited (is_comparable by p.1) e
  Ok p

-- ---- literals

abbrev pub or_types : List ℕ → Result Value ValueFault → Result Expr FilterDocFault
or_types name (Ok value) = Ok (Literal value)
or_types name (Err fault) = Err (Checked Types name)

-- a text beside a property of this kind and name: the place of a parameter, or a value of the kind
abbrev pub literal_as : ValueKind → List ℕ → Option ℕ → List ℕ → Result Expr FilterDocFault
literal_as kind name (Some place) text = Ok (Parameter place)
literal_as kind name None text = or_types name (read_as kind text)

-- a Literal, and the place of the parameter that it stands for
unfoldable pub literal_at : Option (List (List ℕ)) → Element → Result (Option ℕ) FilterDocFault
literal_at parameters e = do
  _ ← plain e
  place_of parameters (text_of e)

-- a ValueReference or a Literal beside a property of this kind and name
unfoldable pub beside : Option (List (List ℕ)) → Option FeatureType → ValueKind → List ℕ → Element → Result Expr FilterDocFault
beside parameters of_type kind name e =
    if is_fes (codes "ValueReference") e
    then (property_at of_type e >>= λ p. suited (is_same kind p.1) e >>= λ _. Ok (Property p.0))
    else (if is_fes (codes "Literal") e
    then (literal_at parameters e >>= λ place. literal_as kind name place (text_of e))
    else Err (Shape (local_of e)))

-- ---- the sides of a comparison

-- what the children of a comparison say: its sides, and the kind of its property
abbrev pub Sides : Type 0
Sides = Expr × Expr × ValueKind

-- a property, which e names, and what stands behind it
unfoldable pub right_of : Option (List (List ℕ)) → Option FeatureType → Element → Element → ℕ × ValueKind → List Element → Result Sides FilterDocFault
right_of parameters of_type whole e p es = do
  f ← first_in whole es
  right ← beside parameters of_type p.1 (text_of e) f.0
  _ ← no_more f.1
  Ok (Property p.0, right, p.1)

-- a literal, which e holds, and what stands behind it
unfoldable pub left_of : Option FeatureType → By → Element → Element → Option ℕ → List Element → Result Sides FilterDocFault
left_of of_type by whole e place es = do
  f ← first_in whole es
  _ ← named (codes "ValueReference") f.0
  p ← comparable_at of_type by f.0
  left ← literal_as p.1 (text_of f.0) place (text_of e)
  _ ← no_more f.1
  Ok (left, Property p.0, p.1)

unfoldable pub sides_from : Option (List (List ℕ)) → Option FeatureType → By → Element → Element → List Element → Result Sides FilterDocFault
sides_from parameters of_type by whole e rest =
    if is_fes (codes "ValueReference") e
    then (comparable_at of_type by e >>= λ p. right_of parameters of_type whole e p rest)
    else (if is_fes (codes "Literal") e
    then (literal_at parameters e >>= λ place. left_of of_type by whole e place rest)
    else Err (Shape (local_of e)))

-- Two of ValueReference and Literal, of which one is a ValueReference. A property that is not compared so, and one of
-- another kind than that before it, are refused where they stand; a literal where it and the property beside it are known.
unfoldable pub sides_of : Option (List (List ℕ)) → Option FeatureType → By → Element → Result Sides FilterDocFault
sides_of parameters of_type by e = do
  f ← first_in e (out-Element e).children
  sides_from parameters of_type by e f.0 f.1

-- ---- comparisons

abbrev pub match_case : List ℕ
match_case = codes "matchCase"

-- matchCase is true, which changes nothing, or, where case may be left out, false
abbrev pub case_by : Bool → Option (List ℕ) → Result Bool FilterDocFault
case_by may None = Ok false
case_by may (Some value) =
    if bytes_eq value (codes "true") then Ok false else
    (if may && bytes_eq value (codes "false") then Ok true else Err (Checked Choice match_case))

-- it is false on the two equalities alone
unfoldable pub fold_of : By → Element → Result Bool FilterDocFault
fold_of by e = case_by (is_equality by) (value_of match_case e)

-- an operator that never leaves case out
unfoldable pub case_of : Element → Result (Unit {0}) FilterDocFault
case_of e = case_by false (value_of match_case e) >>= λ _. Ok tt

-- it has no attribute but matchCase
unfoldable pub only_case : Element → Result (Unit {0}) FilterDocFault
only_case e = do
  _ ← case_of e
  no_others (match_case ∷ []) e

abbrev pub is_action : Option (List ℕ) → Bool
is_action None = true
is_action (Some value) = if bytes_eq value (codes "Any") then true else (if bytes_eq value (codes "All") then true else bytes_eq value (codes "One"))

-- matchAction is Any, All or One. Since a property has one value at most, it changes nothing.
unfoldable pub action_of : Element → Result (Unit {0}) FilterDocFault
action_of e = if is_action (value_of (codes "matchAction") e) then Ok tt else Err (Operator (codes "matchAction"))

-- a comparison has no attributes but these two
unfoldable pub only_matches : Element → Result (Unit {0}) FilterDocFault
only_matches e = no_others (match_case ∷ codes "matchAction" ∷ []) e

-- case is left out of texts alone
unfoldable pub folded : Bool → ValueKind → Result (Unit {0}) FilterDocFault
folded fold kind = if fold && not (is_words kind) then Err (Checked Choice match_case) else Ok tt

abbrev pub and_folded : {A : Type 0} → A → Bool → ValueKind → Result A FilterDocFault
and_folded found fold kind = folded fold kind >>= λ _. Ok found

-- PropertyIsEqualTo and its like
unfoldable pub compare_of : Option (List (List ℕ)) → Option FeatureType → By → Element → Result Filter FilterDocFault
compare_of parameters of_type by e = do
  fold ← fold_of by e
  _ ← action_of e
  _ ← only_matches e
  sides ← sides_of parameters of_type by e
  _ ← folded fold sides.2
  Ok (Compare by sides.0 sides.1 fold)

-- ---- ranges

-- LowerBoundary or UpperBoundary: one ValueReference or Literal, beside a property of this kind and name
unfoldable pub bound_at : List ℕ → Option (List (List ℕ)) → Option FeatureType → ValueKind → List ℕ → Element → Result Expr FilterDocFault
bound_at local parameters of_type kind name e = do
  _ ← named local e
  _ ← no_others [] e
  f ← first_in e (out-Element e).children
  bound ← beside parameters of_type kind name f.0
  _ ← no_more f.1
  Ok bound

-- both bounds, behind a property of this kind and name
unfoldable pub bounds_of : Option (List (List ℕ)) → Option FeatureType → ValueKind → List ℕ → Element → List Element → Result (Expr × Expr) FilterDocFault
bounds_of parameters of_type kind name whole es = do
  lower ← first_in whole es
  low ← bound_at (codes "LowerBoundary") parameters of_type kind name lower.0
  upper ← first_in whole lower.1
  high ← bound_at (codes "UpperBoundary") parameters of_type kind name upper.0
  _ ← no_more upper.1
  Ok (low, high)

-- PropertyIsBetween: a property with an order, and then the two bounds
unfoldable pub between_of : Option (List (List ℕ)) → Option FeatureType → Element → Result Filter FilterDocFault
between_of parameters of_type e = do
  _ ← only_case e
  f ← first_in e (out-Element e).children
  _ ← named (codes "ValueReference") f.0
  p ← comparable_at of_type Less f.0
  bounds ← bounds_of parameters of_type p.1 (text_of f.0) e f.1
  Ok (Between p.0 bounds.0 bounds.1)

-- ---- nulls

-- PropertyIsNull: a property of any kind
unfoldable pub null_of : Option FeatureType → Element → Result Filter FilterDocFault
null_of of_type e = do
  _ ← only_case e
  f ← first_in e (out-Element e).children
  _ ← named (codes "ValueReference") f.0
  p ← property_at of_type f.0
  _ ← no_more f.1
  Ok (IsNull p.0)
