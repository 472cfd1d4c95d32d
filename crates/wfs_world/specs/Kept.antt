-- What each world keeps, beside what is seen of it.
use Rattle.std.specs.Prelude.{◌≡◌, ℕ, ◌≤◌, true, false, List, [], ◌∷◌, length, take, All, is_some, ⊤}
use Rattle.std.specs.Option.{IfSome}
use Rattle.feature_values.specs.declared.schema.Schema.{Schema}
use Rattle.wfs_model.specs.declared.change.Change.{Change}
use Rattle.wfs_model.specs.declared.entry.Entry.{Entry}
use Rattle.wfs_model.specs.Changing.{IsChange}
use Rattle.wfs_model.specs.History.{stepped}
use Rattle.wfs_model.specs.Kept.{IsKept}
use Rattle.wfs_model.specs.OfSchema.{IsOfSchema}
use Rattle.wfs_model.specs.Played.{played_one}
use Rattle.wfs_model.specs.State.{State, Machine, durable, last_moment}
use Rattle.wfs_world.specs.declared.turn.Stage.{Stage}
use Rattle.wfs_world.specs.declared.turn.Stage.TheVariants.{Taken, Put as IsPut}
use Rattle.wfs_world.specs.Scene.{Scene, kept_by, opened_on, opening_of, state_of}
use Rattle.wfs_world.specs.Sound.{IsSound, told, pending}

-- changes that keep well what they are played on, one behind the other
abbrev pub ArePlayed : Schema → List Change → Type 0
ArePlayed schema changes = (n : ℕ) → IsKept schema (kept_by schema (take n changes))

-- entries whose steps can be taken one behind the other
abbrev pub AreSteps : Schema → State → List Entry → Type 0
AreSteps schema state [] = ⊤
AreSteps schema state (entry ∷ entries) =
    IsChange entry.request × IsOfSchema schema entry.request × (state.last ≤ entry.moment) × (entry.moment ≤ last_moment) × AreSteps schema (stepped schema state entry) entries

-- the request in turn is one of the schema, and a changing one where it was put
abbrev pub IsStageOf : Schema → Stage → Type 0
IsStageOf schema (Taken entry) = IsOfSchema schema entry.request
IsStageOf schema (IsPut entry) = IsChange entry.request × IsOfSchema schema entry.request
IsStageOf schema stage = ⊤

-- where there is a process
pub record IsUp (w : Scene) : Type 0 where
  pub sound : IsSound w
  pub steps : AreSteps w.schema (opening_of w) w.entries
  pub last : (state_of w).last ≤ last_moment
  -- what outlives the process is what the journal keeps, but for what was put and has not entered
  pub same : durable (state_of w) ≡ record (kept_by w.schema (told w)) { opening = w.number }
  -- while a change is begun, none is pending
  pub apart : is_some w.begun ≡ true → pending w ≡ []

pub record IsWell (w : Scene) : Type 0 where
  pub seats : length w.fronts ≡ w.seats
  pub found : ArePlayed w.schema w.found
  pub journal : ArePlayed w.schema w.journal
  pub begun : IfSome w.begun (λ change. IsKept w.schema (played_one (kept_by w.schema w.journal) change))
  pub line : All (λ entry. IsOfSchema w.schema entry.request) w.line
  pub turn : IfSome w.turn (λ turn. IsStageOf w.schema turn.stage)
  pub up : w.is_up ≡ true → IsUp w
  pub down : w.is_up ≡ false → w ≡ record (opened_on w.schema w.seats w.number w.journal) { is_up = false }

-- a machine that is in the state after the whole history, and a turn whose request it can take up
pub record IsMet (w : Scene) (machine : Machine) : Type 0 where
  pub schema : machine.schema ≡ w.schema
  pub state : machine.state ≡ state_of w
  pub turn : IfSome w.turn (λ turn. IsStageOf w.schema turn.stage)

-- a world, with the machine that is in the state after the whole history
pub record IsRunning (w : Scene) (machine : Machine) : Type 0 where
  pub well : IsWell w
  pub schema : machine.schema ≡ w.schema
  pub state : w.is_up ≡ true → machine.state ≡ state_of w
