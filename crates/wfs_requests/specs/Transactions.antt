-- Transaction (OGC 09-025r2, section 15.2.2): any number of actions, under a lock or none.
use Rattle.std.specs.Prelude.{List, [], ◌∷◌, ◌++◌, codes, Ok}
use Rattle.wfs_ends.specs.Read.{◌>>=◌, each}
use Rattle.doc_tree.specs.declared.tree.Element.{Element}
use Rattle.feature_values.specs.declared.schema.Schema.{Schema}
use Rattle.wfs_model.specs.declared.action.Action.{Action}
use Rattle.wfs_model.specs.declared.request.Request.{Request}
use Rattle.wfs_model.specs.declared.request.Request.TheVariants.{Transact}
use Rattle.request_parameters.specs.Said.{Ask}
use Rattle.request_parameters.specs.Base.{srs_of}
use Rattle.request_parameters.specs.Locking.{lock_of, release_of}
use Rattle.request_parameters.specs.Elements.{said_at, no_others}
use Rattle.wfs_requests.specs.Base.{children_of, base_of, with_base}
use Rattle.wfs_requests.specs.Actions.{action_of}

unfoldable pub next_action : Schema → List Action → Element → Ask (List Action)
next_action schema found e = action_of schema e >>= λ action. Ok (found ++ action ∷ [])

unfoldable pub transaction_others : Element → Ask (Unit {0})
transaction_others e = no_others (with_base (codes "lockId" ∷ codes "releaseAction" ∷ codes "srsName" ∷ [])) e

-- its handle is any text
unfoldable pub transaction_of : Schema → Element → Ask Request
transaction_of schema e = do
  _ ← base_of e
  lock ← lock_of (said_at e)
  release ← release_of (said_at e)
  _ ← srs_of schema.srs (said_at e)
  _ ← transaction_others e
  actions ← each (next_action schema) [] (children_of e)
  Ok (Transact lock release actions)
