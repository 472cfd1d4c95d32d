-- DescribeFeatureType (OGC 09-025r2, section 9).
use Rattle.std.specs.Prelude.{ℕ, not, List, [], ◌∷◌, ◌++◌, codes, Ok}
use Rattle.wfs_ends.specs.Read.{◌>>=◌, each, unless}
use Rattle.doc_tree.specs.declared.tree.Element.{Element}
use Rattle.feature_values.specs.declared.schema.Schema.{Schema}
use Rattle.wfs_model.specs.declared.request.Request.{Request}
use Rattle.wfs_model.specs.declared.request.Request.TheVariants.{DescribeTypes}
use Rattle.request_parameters.specs.Said.{Ask, kind_of}
use Rattle.request_parameters.specs.Base.{format_of}
use Rattle.request_parameters.specs.Elements.{said_at, is_wfs, no_others, misplaced, text_in}
use Rattle.wfs_requests.specs.Base.{children_of, base_of, with_base}

-- a TypeName
unfoldable pub next_type : Schema → List ℕ → Element → Ask (List ℕ)
next_type schema found e = do
  _ ← unless (not (is_wfs (codes "TypeName") e)) (misplaced e)
  _ ← no_others [] e
  name ← text_in e
  kind ← kind_of schema (codes "TypeName") name
  Ok (found ++ kind ∷ [])

unfoldable pub types_others : Element → Ask (Unit {0})
types_others e = no_others (with_base (codes "outputFormat" ∷ [])) e

-- types by name; none stands for all
unfoldable pub types_of : Schema → Element → Ask Request
types_of schema e = do
  _ ← base_of e
  _ ← format_of (codes "outputFormat") (said_at e)
  _ ← types_others e
  kinds ← each (next_type schema) [] (children_of e)
  Ok (DescribeTypes kinds)
