-- What the root elements of all requests have (OGC 09-025r2, section 7.6.2).
use Rattle.std.specs.Prelude.{ℕ, List, ◌∷◌, codes}
use Rattle.wfs_ends.specs.Read.{◌>>=◌}
use Rattle.doc_tree.specs.declared.tree.Element.{Element, out-Element}
use Rattle.request_parameters.specs.Said.{Ask}
use Rattle.request_parameters.specs.Base.{service_of, version_of}
use Rattle.request_parameters.specs.Elements.{said_at}

abbrev pub children_of : Element → List Element
children_of e = (out-Element e).children

-- the service and its version
unfoldable pub base_of : Element → Ask (Unit {0})
base_of e = do
  _ ← service_of (said_at e)
  version_of (said_at e)

-- a request has these attributes, and its own
abbrev pub with_base : List (List ℕ) → List (List ℕ)
with_base names = codes "service" ∷ codes "version" ∷ codes "handle" ∷ names
