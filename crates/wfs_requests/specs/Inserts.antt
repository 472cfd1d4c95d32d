-- Insert (OGC 09-025r2, section 15.2.4).
use Rattle.std.specs.Prelude.{ℕ, ◌==◌, List, [], ◌∷◌, ◌++◌, length, codes, Ok}
use Rattle.wfs_ends.specs.Read.{◌>>=◌, each, unless}
use Rattle.doc_tree.specs.declared.tree.Element.{Element}
use Rattle.feature_values.specs.declared.schema.Schema.{Schema}
use Rattle.feature_values.specs.declared.feature.Feature.{Feature}
use Rattle.wfs_model.specs.declared.action.Action.{Action}
use Rattle.wfs_model.specs.declared.action.Action.TheVariants.{Insert}
use Rattle.request_parameters.specs.Said.{Ask}
use Rattle.request_parameters.specs.Base.{format_of, srs_of}
use Rattle.request_parameters.specs.Elements.{said_at, no_others, misplaced}
use Rattle.wfs_requests.specs.Base.{children_of}
use Rattle.wfs_requests.specs.Features.{feature_of}

-- what features come in: their format, and the name of their reference system
unfoldable pub income_of : List (List ℕ) → Element → Ask (Unit {0})
income_of srs e = do
  _ ← format_of (codes "inputFormat") (said_at e)
  srs_of srs (said_at e)

-- the attributes of an action with features
unfoldable pub income_others : Element → Ask (Unit {0})
income_others e = no_others (codes "handle" ∷ codes "inputFormat" ∷ codes "srsName" ∷ []) e

unfoldable pub next_feature : Schema → List Feature → Element → Ask (List Feature)
next_feature schema found e = feature_of schema e >>= λ feature. Ok (found ++ feature ∷ [])

-- one or more features; its handle is any text
unfoldable pub insert_of : Schema → Element → Ask Action
insert_of schema e = do
  _ ← income_of schema.srs e
  _ ← income_others e
  features ← each (next_feature schema) [] (children_of e)
  _ ← unless (length (children_of e) == 0) (misplaced e)
  Ok (Insert (said_at e (codes "handle")) features)
