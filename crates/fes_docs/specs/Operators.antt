-- The operators of filters by their names (FES 2.0, OGC 09-026r2, sections 7.7 to 7.11).
use Rattle.std.specs.Prelude.{ℕ, if◌then◌else◌, List, codes, Option, Some, None, Result, Ok, Err}
use Rattle.std.specs.Str.{bytes_eq}
use Rattle.doc_tree.specs.declared.tree.QName.{QName}
use Rattle.fes_filter.specs.declared.expr.By.{By}
use Rattle.fes_docs.specs.Names.{fes_space}
use Rattle.fes_docs.specs.declared.operator.Predicate.{Predicate}
use Rattle.fes_docs.specs.declared.operator.Predicate.TheVariants as Test
use Rattle.fes_docs.specs.declared.operator.Operator.{Operator}
use Rattle.fes_docs.specs.declared.fault.FilterDocFault.{FilterDocFault}
use Rattle.fes_docs.specs.declared.fault.FilterDocFault.TheVariants as Fault

-- the comparisons of two sides
unfoldable pub comparison_named : List ℕ → Option By
comparison_named name =
    if bytes_eq name (codes "PropertyIsEqualTo") then Some By.Equal else
    (if bytes_eq name (codes "PropertyIsNotEqualTo") then Some By.NotEqual else
    (if bytes_eq name (codes "PropertyIsLessThan") then Some By.Less else
    (if bytes_eq name (codes "PropertyIsGreaterThan") then Some By.Greater else
    (if bytes_eq name (codes "PropertyIsLessThanOrEqualTo") then Some By.LessEqual else
    (if bytes_eq name (codes "PropertyIsGreaterThanOrEqualTo") then Some By.GreaterEqual else None)))))

abbrev pub compared : Option By → Option Predicate
compared None = None
compared (Some by) = Some (Test.Compare by)

-- the operators in which none stands
unfoldable pub predicate_named : List ℕ → Option Predicate
predicate_named name =
    if bytes_eq name (codes "PropertyIsLike") then Some Test.Like else
    (if bytes_eq name (codes "PropertyIsNull") then Some Test.Null else
    (if bytes_eq name (codes "PropertyIsBetween") then Some Test.Between else
    (if bytes_eq name (codes "BBOX") then Some Test.Bbox else
    (if bytes_eq name (codes "Intersects") then Some Test.Intersects else
    (if bytes_eq name (codes "Disjoint") then Some Test.Disjoint else
    (if bytes_eq name (codes "ResourceId") then Some Test.ResourceId else
    compared (comparison_named name)))))))

abbrev pub tested : Option Predicate → Option Operator
tested None = None
tested (Some predicate) = Some (Operator.Predicate predicate)

unfoldable pub operator_named : List ℕ → Option Operator
operator_named name =
    if bytes_eq name (codes "And") then Some Operator.And else
    (if bytes_eq name (codes "Or") then Some Operator.Or else
    (if bytes_eq name (codes "Not") then Some Operator.Not else tested (predicate_named name)))

abbrev pub or_no_operator : List ℕ → Option Operator → Result Operator FilterDocFault
or_no_operator name None = Err (Fault.Operator name)
or_no_operator name (Some operator) = Ok operator

-- an element of FES with such a name
unfoldable pub operator_in : QName → Result Operator FilterDocFault
operator_in name =
    if bytes_eq name.space fes_space then or_no_operator name.local (operator_named name.local) else Err (Fault.Operator name.local)
