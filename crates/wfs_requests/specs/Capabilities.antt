-- GetCapabilities (OGC 09-025r2, section 8; OGC 06-121r9, section 7.3): the versions that a client accepts are judged at the end.
use Rattle.std.specs.Prelude.{ℕ, Bool, ◌||◌, not, if◌then◌else◌, List, [], ◌∷◌, ◌++◌, codes, Option, Some, None, unwrap_or, Ok}
use Rattle.std.specs.Option.{is_some}
use Rattle.wfs_ends.specs.Read.{◌>>=◌, each, unless}
use Rattle.doc_tree.specs.declared.tree.Element.{Element, out-Element}
use Rattle.doc_tree.specs.Attributes.{is_name}
use Rattle.wfs_model.specs.declared.request.Request.{Request}
use Rattle.wfs_model.specs.declared.request.Request.TheVariants.{Capabilities}
use Rattle.request_parameters.specs.Said.{Ask}
use Rattle.request_parameters.specs.Base.{negotiated}
use Rattle.request_parameters.specs.Elements.{no_others, misplaced, text_in}
use Rattle.wfs_requests.specs.Base.{children_of, base_of, with_base}

-- the namespace of OWS Common 1.1
abbrev pub ows_space : List ℕ
ows_space = codes "http://www.opengis.net/ows/1.1"

-- an element of OWS with this local name
unfoldable pub is_ows : List ℕ → Element → Bool
is_ows local e = is_name ows_space local (out-Element e).name

unfoldable pub next_version : List (List ℕ) → Element → Ask (List (List ℕ))
next_version found e = do
  _ ← unless (not (is_ows (codes "Version") e)) (misplaced e)
  _ ← no_others [] e
  text ← text_in e
  Ok (found ++ text ∷ [])

-- an AcceptVersions: any number of versions
unfoldable pub versions_in : Element → Ask (List (List ℕ))
versions_in e = do
  _ ← no_others [] e
  each next_version [] (children_of e)

-- the versions that are accepted, by an AcceptVersions, which comes at most once
unfoldable pub with_versions : Option (List (List ℕ)) → Element → Ask (Option (List (List ℕ)))
with_versions found e = do
  _ ← unless (not (is_ows (codes "AcceptVersions") e) || is_some found) (misplaced e)
  versions ← versions_in e
  Ok (Some versions)

-- what is accepted of sections and formats is passed over
unfoldable pub is_passed_over : Element → Bool
is_passed_over e = is_ows (codes "Sections") e || is_ows (codes "AcceptFormats") e

unfoldable pub next_accepted : Option (List (List ℕ)) → Element → Ask (Option (List (List ℕ)))
next_accepted found e = if is_passed_over e then Ok found else with_versions found e

unfoldable pub capabilities_others : Element → Ask (Unit {0})
capabilities_others e = no_others (with_base []) e

unfoldable pub capabilities_of : Element → Ask Request
capabilities_of e = do
  _ ← base_of e
  _ ← capabilities_others e
  found ← each next_accepted None (children_of e)
  _ ← negotiated (unwrap_or found [])
  Ok Capabilities
