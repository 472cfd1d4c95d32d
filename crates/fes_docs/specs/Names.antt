-- Elements and attributes of filters, and how each element is judged (FES 2.0, OGC 09-026r2, section 7): its name is
-- allowed where it stands; its listed attributes, in the order of the list; other attributes in no namespace, of which
-- the first by name is told; its children in document order; and then the children that are missing. Attributes of
-- namespaces are not looked at, nor is text beside child elements.
use Rattle.std.specs.Prelude.{ℕ, Bool, if◌then◌else◌, List, [], ◌∷◌, codes, Option, Some, None, Result, Ok, Err}
use Rattle.wfs_ends.specs.Read.{◌>>=◌}
use Rattle.doc_tree.specs.declared.tree.Element.{Element, out-Element}
use Rattle.doc_tree.specs.Attributes.{is_name, value_at}
use Rattle.doc_tree.specs.Others.{first_other}
use Rattle.gml_docs.specs.declared.fault.GmlFault.{GmlFault}
use Rattle.gml_docs.specs.declared.fault.GmlFault.TheVariants.{Srs, OutOfMemory as NoMemory}
use Rattle.fes_filter.specs.declared.fault.FilterFault.TheVariants.{Unknown, Types, Choice, TooLarge}
use Rattle.fes_docs.specs.declared.fault.FilterDocFault.{FilterDocFault}
use Rattle.fes_docs.specs.declared.fault.FilterDocFault.TheVariants.{Operator, Shape, Geometry, Checked, Undeclared, OutOfMemory}

-- the namespace of FES 2.0
abbrev pub fes_space : List ℕ
fes_space = codes "http://www.opengis.net/fes/2.0"

-- an element of FES with this local name
unfoldable pub is_fes : List ℕ → Element → Bool
is_fes local e = is_name fes_space local (out-Element e).name

abbrev pub local_of : Element → List ℕ
local_of e = (out-Element e).name.local

abbrev pub text_of : Element → List ℕ
text_of e = (out-Element e).text

-- ---- attributes

-- the value of the first attribute of this name in no namespace
unfoldable pub value_of : List ℕ → Element → Option (List ℕ)
value_of local e = value_at [] local (out-Element e).attributes

abbrev pub refused : Option (List ℕ) → Result (Unit {0}) FilterDocFault
refused None = Ok tt
refused (Some name) = Err (Operator name)

-- an element has none but the listed attributes
unfoldable pub no_others : List (List ℕ) → Element → Result (Unit {0}) FilterDocFault
no_others listed e = refused (first_other listed (out-Element e).attributes)

-- ---- children

-- something is missing in an element
abbrev pub missing : Element → FilterDocFault
missing e = Shape (local_of e)

-- an element of FES of this name stands where only that is allowed
unfoldable pub named : List ℕ → Element → Result (Unit {0}) FilterDocFault
named local e = if is_fes local e then Ok tt else Err (Shape (local_of e))

-- no element stands where none is allowed
unfoldable pub no_more : List Element → Result (Unit {0}) FilterDocFault
no_more [] = Ok tt
no_more (e ∷ es) = Err (Shape (local_of e))

-- a value that was read, where no element stands behind it
abbrev pub and_no_more : {A : Type 0} → A → List Element → Result A FilterDocFault
and_no_more found rest = no_more rest >>= λ _. Ok found

-- the first of the elements that stand in an element, and those behind it; one has to be there
unfoldable pub first_in : Element → List Element → Result (Element × List Element) FilterDocFault
first_in whole [] = Err (missing whole)
first_in whole (e ∷ es) = Ok (e, es)

-- an element of text alone, without attributes
unfoldable pub plain : Element → Result (Unit {0}) FilterDocFault
plain e = do
  _ ← no_others [] e
  no_more (out-Element e).children

-- ---- what a fault is in a service's answers

-- The row of the service's table of refusals, and the locator that it names: 8 misplaced or malformed, 10 a value is
-- missing, 11 a value is refused, 12 an option is refused, 27 no memory.
unfoldable pub refusal_of : FilterDocFault → ℕ × List ℕ
refusal_of (Operator name) = (12, name)
refusal_of (Shape name) = (8, name)
refusal_of (Geometry Srs) = (11, codes "srsName")
refusal_of (Geometry fault) = (8, codes "Filter")
refusal_of (Checked Unknown name) = (11, name)
refusal_of (Checked Types name) = (11, name)
refusal_of (Checked Choice name) = (12, name)
refusal_of (Checked TooLarge name) = (12, name)
refusal_of (Undeclared name) = (10, name)
refusal_of OutOfMemory = (27, codes "memory")

-- a fault of a geometry is one of the filter
abbrev pub geometry_fault : GmlFault → FilterDocFault
geometry_fault NoMemory = OutOfMemory
geometry_fault fault = Geometry fault
