-- Replace and Delete (OGC 09-025r2, sections 15.2.6 and 15.2.7), and which actions there are.
use Rattle.std.specs.Prelude.{if◌then◌else◌, List, [], ◌∷◌, codes, Ok, Err}
use Rattle.wfs_ends.specs.Read.{◌>>=◌}
use Rattle.doc_tree.specs.declared.tree.Element.{Element}
use Rattle.feature_values.specs.declared.schema.Schema.{Schema}
use Rattle.wfs_model.specs.declared.action.Action.{Action}
use Rattle.wfs_model.specs.declared.action.Action.TheVariants.{Replace, Delete}
use Rattle.wfs_model.specs.Terms.{refused}
use Rattle.request_parameters.specs.Said.{Ask}
use Rattle.request_parameters.specs.Elements.{said_at, is_wfs, no_others, misplaced}
use Rattle.wfs_requests.specs.Base.{children_of}
use Rattle.wfs_requests.specs.Changes.{type_of, only_filter}
use Rattle.wfs_requests.specs.Features.{feature_of}
use Rattle.wfs_requests.specs.Inserts.{income_of, income_others, insert_of}
use Rattle.wfs_requests.specs.Updates.{update_of}

-- ---- Replace

-- a feature, and behind it a Filter for features of its type
unfoldable pub replaced_by : Schema → Element → Element → List Element → Ask Action
replaced_by schema whole e rest = do
  feature ← feature_of schema e
  filter ← only_filter schema feature.id.kind whole rest
  Ok (Replace (said_at whole (codes "handle")) feature filter)

abbrev pub replaced_in : Schema → Element → List Element → Ask Action
replaced_in schema whole [] = Err (misplaced whole)
replaced_in schema whole (e ∷ rest) = replaced_by schema whole e rest

-- its handle is any text
unfoldable pub replace_of : Schema → Element → Ask Action
replace_of schema e = do
  _ ← income_of schema.srs e
  _ ← income_others e
  replaced_in schema e (children_of e)

-- ---- Delete

unfoldable pub delete_others : Element → Ask (Unit {0})
delete_others e = no_others (codes "typeName" ∷ codes "handle" ∷ []) e

-- a Filter; its handle is any text
unfoldable pub delete_of : Schema → Element → Ask Action
delete_of schema e = do
  kind ← type_of schema e
  _ ← delete_others e
  filter ← only_filter schema kind e (children_of e)
  Ok (Delete kind filter)

-- ---- all actions

-- an action (15.2.3); the service has no native ones
unfoldable pub action_of : Schema → Element → Ask Action
action_of schema e =
    if is_wfs (codes "Insert") e then insert_of schema e else
    (if is_wfs (codes "Update") e then update_of schema e else
    (if is_wfs (codes "Replace") e then replace_of schema e else
    (if is_wfs (codes "Delete") e then delete_of schema e else
    (if is_wfs (codes "Native") e then Err (refused 12 (codes "Native")) else Err (misplaced e)))))
