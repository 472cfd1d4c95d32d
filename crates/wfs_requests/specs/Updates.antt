-- Update (OGC 09-025r2, section 15.2.5): one Property or more, and then at most one Filter.
use Rattle.std.specs.Prelude.{ℕ, ◌==◌, Bool, ◌&&◌, ◌||◌, not, if◌then◌else◌, List, [], ◌∷◌, ◌++◌, length, codes, Option, Some, None, Ok, Err}
use Rattle.std.specs.Option.{is_some}
use Rattle.std.specs.Str.{bytes_eq}
use Rattle.wfs_ends.specs.Read.{◌>>=◌, each, unless}
use Rattle.doc_tree.specs.declared.tree.Element.{Element}
use Rattle.feature_values.specs.declared.schema.Schema.{Schema}
use Rattle.feature_values.specs.declared.schema.Property.{Property}
use Rattle.feature_values.specs.declared.value.Value.{Value}
use Rattle.fes_filter.specs.Check.{is_shape}
use Rattle.fes_filter.specs.declared.filter.Filter.{Filter}
use Rattle.wfs_model.specs.OfSchema.{property_at}
use Rattle.wfs_model.specs.declared.action.Action.{Action}
use Rattle.wfs_model.specs.declared.action.Action.TheVariants.{Update}
use Rattle.wfs_model.specs.Terms.{refused}
use Rattle.request_parameters.specs.Said.{Ask, passing}
use Rattle.request_parameters.specs.Elements.{said_at, is_wfs, no_others, misplaced, no_children, text_in}
use Rattle.wfs_requests.specs.Base.{children_of}
use Rattle.wfs_requests.specs.Changes.{type_of, property_of, selected}
use Rattle.wfs_requests.specs.Inserts.{income_of}
use Rattle.wfs_requests.specs.Values.{content_of, null_of, is_empty}

-- ---- one property

-- the one way in which a value changes that is offered
unfoldable pub is_replace : List ℕ → Bool
is_replace text = bytes_eq text (codes "replace")

unfoldable pub way_of : Element → Ask (Unit {0})
way_of e = passing is_replace (refused 12 (codes "action")) (said_at e (codes "action"))

-- a ValueReference: the name of the property
unfoldable pub reference_of : Element → Ask (List ℕ)
reference_of e = do
  _ ← unless (not (is_wfs (codes "ValueReference") e)) (misplaced e)
  _ ← way_of e
  _ ← no_others (codes "action" ∷ []) e
  text_in e

-- the content of a Value; an empty one of a geometry is null
unfoldable pub set_content : List (List ℕ) → Property → Element → Ask Value
set_content srs property e = if is_shape property.kind && is_empty e then null_of property else content_of srs property e

-- a Value
unfoldable pub set_value : List (List ℕ) → Property → Element → Ask Value
set_value srs property e = do
  _ ← unless (not (is_wfs (codes "Value") e)) (misplaced e)
  _ ← no_others [] e
  set_content srs property e

-- the elements behind a ValueReference: at most one Value, without which the property is to be null
abbrev pub new_value : List (List ℕ) → Property → List Element → Ask Value
new_value srs property [] = null_of property
new_value srs property (e ∷ rest) = do
  value ← set_value srs property e
  _ ← no_children rest
  Ok value

abbrev pub value_at : List (List ℕ) → List ℕ → Option Property → List Element → Ask Value
value_at srs name None elements = Err (refused 11 name)
value_at srs name (Some property) elements = new_value srs property elements

-- the property that an element names, and its new value by the elements behind that
unfoldable pub set_by : Schema → ℕ → Element → List Element → Ask (ℕ × Value)
set_by schema kind e rest = do
  name ← reference_of e
  place ← property_of schema (Some kind) name
  value ← value_at schema.srs name (property_at schema (Some kind) place) rest
  Ok (place, value)

abbrev pub set_in : Schema → ℕ → Element → List Element → Ask (ℕ × Value)
set_in schema kind whole [] = Err (misplaced whole)
set_in schema kind whole (e ∷ rest) = set_by schema kind e rest

-- a Property
unfoldable pub set_of : Schema → ℕ → Element → Ask (ℕ × Value)
set_of schema kind e = do
  _ ← no_others [] e
  set_in schema kind e (children_of e)

-- ---- the whole

-- what was read so far of an Update
pub record Changes : Type 0 where
  pub sets : List (ℕ × Value)
  pub filter : Option Filter

abbrev pub so_far : List (ℕ × Value) → Option Filter → Changes
so_far sets filter = record { sets = sets; filter = filter }

unfoldable pub with_set : Schema → ℕ → Changes → Element → Ask Changes
with_set schema kind found e = do
  _ ← unless (is_some found.filter) (misplaced e)
  set ← set_of schema kind e
  Ok (so_far (found.sets ++ set ∷ []) found.filter)

unfoldable pub with_filter : Schema → ℕ → Changes → Element → Ask Changes
with_filter schema kind found e = do
  _ ← unless (length found.sets == 0 || is_some found.filter) (misplaced e)
  filter ← selected schema kind e
  Ok (so_far found.sets (Some filter))

-- a Property more, which stands before any Filter; a Filter stands behind one
unfoldable pub next_change : Schema → ℕ → Changes → Element → Ask Changes
next_change schema kind found e =
    if is_wfs (codes "Property") e then with_set schema kind found e else with_filter schema kind found e

unfoldable pub update_others : Element → Ask (Unit {0})
update_others e = no_others (codes "typeName" ∷ codes "handle" ∷ codes "inputFormat" ∷ codes "srsName" ∷ []) e

-- without a Filter all features of the type are changed; its handle is any text
unfoldable pub update_of : Schema → Element → Ask Action
update_of schema e = do
  kind ← type_of schema e
  _ ← income_of schema.srs e
  _ ← update_others e
  found ← each (next_change schema kind) (so_far [] None) (children_of e)
  _ ← unless (length (children_of e) == 0) (misplaced e)
  Ok (Update (said_at e (codes "handle")) kind found.sets found.filter)
