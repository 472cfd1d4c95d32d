-- The changes that outlive the process: which one a changing request makes, and what changes do to what is kept.
use Rattle.std.specs.Prelude.{ℕ, ◌==◌, if◌then◌else◌, List, [], ◌∷◌, ◌++◌, length, get_or, slice_set, max, Option, Some, None, Result, Ok, Err}
use Rattle.std.specs.List.{fold}
use Rattle.std.specs.Option.{option_to_list}
use Rattle.feature_values.specs.declared.schema.Schema.{Schema}
use Rattle.feature_overlay.specs.Laid.{laid}
use Rattle.wfs_model.specs.declared.change.Part.{Part}
use Rattle.wfs_model.specs.declared.change.Part.TheVariants.{Put, Remove}
use Rattle.wfs_model.specs.declared.change.Change.{Change}
use Rattle.wfs_model.specs.declared.change.Change.TheVariants.{Opening, Rows, Created, Dropped, Base}
use Rattle.wfs_model.specs.declared.entry.Entry.{Entry}
use Rattle.wfs_model.specs.declared.reply.Refusal.{Refusal}
use Rattle.wfs_model.specs.declared.request.Request.{Request}
use Rattle.wfs_model.specs.declared.request.Request.TheVariants.{Transact, CreateStored, DropStored}
use Rattle.wfs_model.specs.State.{State, Durable}
use Rattle.wfs_model.specs.Stored.{created, dropped, without_query}
use Rattle.wfs_model.specs.Plans.{Planning}
use Rattle.wfs_model.specs.Step.{plan_of, step}

-- ---- the change that a request makes

-- all parts of a transaction; a transaction without parts changes nothing
abbrev pub rows_of : List Part → Option Change
rows_of parts = if length parts == 0 then None else Some (Rows parts)

abbrev pub rows_if : Result Planning Refusal → Option Change
rows_if (Err refusal) = None
rows_if (Ok plan) = rows_of plan.parts

-- a change, where the request is accepted
abbrev pub if_accepted : {X E : Type 0} → Result X E → Change → Option Change
if_accepted (Ok x) change = Some change
if_accepted (Err fault) change = None

-- the change that a request makes at a moment, where it is accepted and makes one
unfoldable pub change_of : Schema → State → ℕ → Request → Option Change
change_of schema state moment (Transact lock release actions) = rows_if (plan_of schema state moment lock actions)
change_of schema state moment (CreateStored queries) = if_accepted (created state.stored queries) (Created queries)
change_of schema state moment (DropStored id) = if_accepted (dropped state.stored id) (Dropped id)
change_of schema state moment request = None

-- the changes that entries make one after the other, from a state on
abbrev pub accepted : Schema → State → List Entry → List Change
accepted schema state [] = []
accepted schema state (entry ∷ entries) =
    option_to_list (change_of schema state entry.moment entry.request) ++ accepted schema (step schema state entry.moment entry.request).1 entries

-- ---- what changes do

-- a feature under a number that may be above all that were given of its type
abbrev pub raised : List ℕ → ℕ → ℕ → List ℕ
raised counters kind number = slice_set counters kind (max (get_or counters kind 0) number)

unfoldable pub part_played : Durable → Part → Durable
part_played kept (Put f) = record kept { features = laid kept.features f.id (Some f); counters = raised kept.counters f.id.kind f.id.number }
part_played kept (Remove id) = record kept { features = laid kept.features id None }

-- what a change does to what is kept
unfoldable pub played_one : Durable → Change → Durable
played_one kept (Opening opening) = record kept { opening = opening }
played_one kept (Rows parts) = fold part_played kept parts
played_one kept (Created queries) = record kept { stored = kept.stored ++ queries }
played_one kept (Dropped id) = record kept { stored = without_query kept.stored id }
played_one kept (Base opening counters) = record kept { opening = opening; counters = counters }

-- what changes do one after the other
abbrev pub played : Durable → List Change → Durable
played kept changes = fold played_one kept changes
