-- How the elements of a document are judged (OGC 09-025r2, section 7.6): an element's name is allowed where it stands; its listed
-- attributes, in the order of the list; other attributes in no namespace, of which the first by name is refused; its children in
-- document order; and then the children that are missing. The first refusal is the answer. Attributes of namespaces are not looked at.
use Rattle.std.specs.Prelude.{ℕ, Bool, List, [], ◌∷◌, codes, Option, Some, None, Ok, Err}
use Rattle.wfs_ends.specs.Read.{◌>>=◌}
use Rattle.doc_tree.specs.declared.tree.Attribute.{Attribute}
use Rattle.doc_tree.specs.declared.tree.Element.{Element, out-Element}
use Rattle.doc_tree.specs.Attributes.{is_name, value_at}
use Rattle.doc_tree.specs.Others.{first_other}
use Rattle.wfs_model.specs.Terms.{refused}
use Rattle.wfs_model.specs.declared.fault.AskFault.{AskFault}
use Rattle.request_parameters.specs.Said.{Said, Ask}

abbrev pub local_of : Element → List ℕ
local_of e = (out-Element e).name.local

-- what attributes say: the values of those in no namespace
abbrev pub said_by : List Attribute → Said
said_by attributes name = value_at [] name attributes

-- what the attributes of an element say
abbrev pub said_at : Element → Said
said_at e = said_by (out-Element e).attributes

-- the namespace of the Web Feature Service 2.0
abbrev pub wfs_space : List ℕ
wfs_space = codes "http://www.opengis.net/wfs/2.0"

-- an element of WFS with this local name
unfoldable pub is_wfs : List ℕ → Element → Bool
is_wfs local e = is_name wfs_space local (out-Element e).name

abbrev pub none_other : Option (List ℕ) → Ask (Unit {0})
none_other None = Ok tt
none_other (Some name) = Err (refused 12 name)

-- an element has none but the listed attributes
unfoldable pub no_others : List (List ℕ) → Element → Ask (Unit {0})
no_others listed e = none_other (first_other listed (out-Element e).attributes)

-- the name of an element is not allowed where it stands
abbrev pub misplaced : Element → AskFault
misplaced e = refused 8 (local_of e)

abbrev pub no_children : List Element → Ask (Unit {0})
no_children [] = Ok tt
no_children (e ∷ elements) = Err (misplaced e)

-- the text of an element that holds nothing else
unfoldable pub text_in : Element → Ask (List ℕ)
text_in e = no_children (out-Element e).children >>= λ _. Ok (out-Element e).text
