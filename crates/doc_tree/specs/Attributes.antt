-- Names of elements and attributes, and an attribute's value (Namespaces in XML 1.0, sections 2.1 and 6.3).
use Rattle.std.specs.Prelude.{ℕ, Bool, ◌&&◌, List, find, Option, option_map}
use Rattle.std.specs.List.{list_any}
use Rattle.std.specs.Str.{bytes_eq}
use Rattle.doc_tree.specs.declared.tree.QName.{QName}
use Rattle.doc_tree.specs.declared.tree.Attribute.{Attribute}

-- a name by its namespace, which is empty where it has none, and its local name
abbrev pub is_name : List ℕ → List ℕ → QName → Bool
is_name space local name = bytes_eq name.space space && bytes_eq name.local local

abbrev pub is_among : List (List ℕ) → List ℕ → Bool
is_among names name = list_any (λ n. bytes_eq n name) names

-- the value of the first attribute of this name
abbrev pub value_at : List ℕ → List ℕ → List Attribute → Option (List ℕ)
value_at space local attributes = option_map (λ a. a.value) (find (λ a. is_name space local a.name) attributes)
