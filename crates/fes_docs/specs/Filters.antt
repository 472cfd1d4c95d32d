-- The filter of an element, or what is wrong with it first (FES 2.0, OGC 09-026r2, section 7): the elements are judged in
-- document order, each as specs/Names.antt says, and an operator before its parts.
use Rattle.std.specs.Prelude.{ℕ, if◌then◌else◌, ◌==◌, ◌-◌, nat_lt, List, [], ◌∷◌, ◌++◌, length, map, codes, Option, Result, Ok, Err}
use Rattle.wfs_ends.specs.Read.{◌>>=◌, each}
use Rattle.doc_tree.specs.declared.tree.Element.{Element, out-Element}
use Rattle.doc_tree.specs.declared.tree.Element.TheOpen.{Element-F}
use Rattle.doc_tree.specs.declared.tree.Element.TheViews.{roll-Element}
use Rattle.doc_tree.specs.declared.tree.Element.TheFolds.{fold-Element}
use Rattle.feature_values.specs.declared.schema.Schema.{Schema}
use Rattle.fes_filter.specs.Check.{type_in, most_operators}
use Rattle.fes_filter.specs.declared.filter.Filter.{Filter}
use Rattle.fes_filter.specs.declared.filter.Filter.TheVariants.{Both, Either, Not, Ids, Meets, Apart}
use Rattle.fes_filter.specs.declared.fault.FilterFault.TheVariants.{TooLarge}
use Rattle.fes_docs.specs.Names.{is_fes, local_of, no_others, no_more, first_in}
use Rattle.fes_docs.specs.Sides.{compare_of, between_of, null_of}
use Rattle.fes_docs.specs.Like.{like_of}
use Rattle.fes_docs.specs.Spatial.{box_of, operands_of}
use Rattle.fes_docs.specs.Ids.{id_at, next_id}
use Rattle.fes_docs.specs.Operators.{operator_in}
use Rattle.fes_docs.specs.declared.operator.Predicate.{Predicate}
use Rattle.fes_docs.specs.declared.operator.Predicate.TheVariants as Test
use Rattle.fes_docs.specs.declared.operator.Operator.{Operator}
use Rattle.fes_docs.specs.declared.fault.FilterDocFault.{FilterDocFault}
use Rattle.fes_docs.specs.declared.fault.FilterDocFault.TheVariants.{Shape, Checked}

-- how an element is read where an operator is expected and so many may still stand, and how many may stand behind it
abbrev pub Reading : Type 0
Reading = ℕ → Result (Filter × ℕ) FilterDocFault

-- one operator more: the 1,001st is one too many, whatever stands in it
unfoldable pub counted : ℕ → Result ℕ FilterDocFault
counted left = if left == 0 then Err (Checked TooLarge (codes "Filter")) else Ok (left - 1)

-- a ResourceId that stands as an operator
abbrev pub only_id : Option (List (List ℕ)) → Schema → Element → Result Filter FilterDocFault
only_id parameters schema e = id_at parameters schema e >>= λ id. Ok (Ids (id ∷ []))

-- what the name of an operator in which none stands says of an element
unfoldable pub predicate_of : Option (List (List ℕ)) → Schema → Option ℕ → Element → Predicate → Result Filter FilterDocFault
predicate_of parameters schema kind e (Test.Compare by) = compare_of parameters (type_in schema kind) by e
predicate_of parameters schema kind e Test.Like = like_of (type_in schema kind) e
predicate_of parameters schema kind e Test.Null = null_of (type_in schema kind) e
predicate_of parameters schema kind e Test.Between = between_of parameters (type_in schema kind) e
predicate_of parameters schema kind e Test.Bbox = box_of schema.srs (type_in schema kind) e
predicate_of parameters schema kind e Test.Intersects = operands_of schema.srs (type_in schema kind) e >>= λ o. Ok (Meets o.0 o.1)
predicate_of parameters schema kind e Test.Disjoint = operands_of schema.srs (type_in schema kind) e >>= λ o. Ok (Apart o.0 o.1)
predicate_of parameters schema kind e Test.ResourceId = only_id parameters schema e

-- ---- operators of operators

abbrev pub next_operator : List Filter × ℕ → Reading → Result (List Filter × ℕ) FilterDocFault
next_operator found inner = inner found.1 >>= λ more. Ok (found.0 ++ more.0 ∷ [], more.1)

-- two operators or more, in an element of this name
unfoldable pub several : List ℕ → List Reading → ℕ → Result (List Filter × ℕ) FilterDocFault
several name inner left = do
  found ← each next_operator ([], left) inner
  if nat_lt (length found.0) 2 then Err (Shape name) else Ok found

-- one operator, in an element of this name with these children
abbrev pub one : List ℕ → List Element → List Reading → ℕ → Result (Filter × ℕ) FilterDocFault
one name (child ∷ rest) (inner ∷ others) left = inner left >>= λ found. no_more rest >>= λ _. Ok found
one name children inner left = Err (Shape name)

-- ---- operators

-- an operator, by how its children are read where operators are expected
unfoldable pub operation : Option (List (List ℕ)) → Schema → Option ℕ → Element → List Reading → Operator → ℕ → Result (Filter × ℕ) FilterDocFault
operation parameters schema kind e inner Operator.And left = do
  _ ← no_others [] e
  found ← several (local_of e) inner left
  Ok (Both found.0, found.1)
operation parameters schema kind e inner Operator.Or left = do
  _ ← no_others [] e
  found ← several (local_of e) inner left
  Ok (Either found.0, found.1)
operation parameters schema kind e inner Operator.Not left = do
  _ ← no_others [] e
  found ← one (local_of e) (out-Element e).children inner left
  Ok (Not found.0, found.1)
operation parameters schema kind e inner (Operator.Predicate predicate) left = do
  filter ← predicate_of parameters schema kind e predicate
  Ok (filter, left)

unfoldable pub operator_by : Option (List (List ℕ)) → Schema → Option ℕ → Element → List Reading → Reading
operator_by parameters schema kind e inner left = do
  operator ← operator_in (out-Element e).name
  more ← counted left
  operation parameters schema kind e inner operator more

-- an element with how it is read, by its children with how they are
abbrev pub with_reading : Option (List (List ℕ)) → Schema → Option ℕ → Element-F (Element × Reading) → Element × Reading
with_reading parameters schema kind e =
    let whole = roll-Element (record { name = e.name; attributes = e.attributes; children = map (λ c. c.0) e.children; text = e.text }) in
    (whole, operator_by parameters schema kind whole (map (λ c. c.1) e.children))

-- how an element is read where an operator is expected
unfoldable pub operator_of : Option (List (List ℕ)) → Schema → Option ℕ → Element → Reading
operator_of parameters schema kind e = (fold-Element (Element × Reading) (with_reading parameters schema kind) e).1

-- ---- the whole

abbrev pub ids_in : Option (List (List ℕ)) → Schema → List Element → Result Filter FilterDocFault
ids_in parameters schema es = each (next_id parameters schema) [] es >>= λ ids. Ok (Ids ids)

unfoldable pub content_from : Option (List (List ℕ)) → Schema → Option ℕ → Element → List Element → Result Filter FilterDocFault
content_from parameters schema kind e rest = do
  found ← operator_of parameters schema kind e most_operators
  _ ← no_more rest
  Ok found.0

abbrev pub content_of : Option (List (List ℕ)) → Schema → Option ℕ → Element → List Element → Result Filter FilterDocFault
content_of parameters schema kind whole es = do
  f ← first_in whole es
  if is_fes (codes "ResourceId") f.0 then ids_in parameters schema es else content_from parameters schema kind f.0 f.1

-- The filter of an element for a type of a schema, or for no type: one operator, or one ResourceId or more, of which one
-- is enough. Where parameters are listed, the places of those that stand for a literal or an identifier are read.
unfoldable pub filter_of : Option (List (List ℕ)) → Schema → Option ℕ → Element → Result Filter FilterDocFault
filter_of parameters schema kind e =
    if is_fes (codes "Filter") e
    then (no_others [] e >>= λ _. content_of parameters schema kind e (out-Element e).children)
    else Err (Shape (local_of e))
