-- Some seats that share one machine of the service and its journal: what is known of all of them between any two steps.
use Rattle.std.specs.Prelude.{ℕ, ◌==◌, Bool, true, List, [], length, replicate, Option, Some, None, if◌then◌else◌}
use Rattle.feature_values.specs.declared.schema.Schema.{Schema}
use Rattle.wfs_model.specs.declared.change.Change.{Change}
use Rattle.wfs_model.specs.declared.entry.Entry.{Entry}
use Rattle.wfs_model.specs.History.{after_all}
use Rattle.wfs_model.specs.Played.{change_of, played}
use Rattle.wfs_model.specs.State.{State, Durable, nothing, opened, moment_in}
use Rattle.wfs_world.specs.declared.turn.Stage.{Stage}
use Rattle.wfs_world.specs.declared.turn.Turn.{Turn}

pub record Scene : Type 0 where
  pub schema : Schema
  -- how many seats there are
  pub seats : ℕ
  -- the number of this opening, and the changes that the journal had when it began
  pub number : ℕ
  pub found : List Change
  -- the history of this opening
  pub entries : List Entry
  -- the requests that wait, in the order in which they came
  pub line : List Entry
  -- the seat in turn, and how far its request has come
  pub turn : Option Turn
  -- how many entries each seat has seen
  pub fronts : List ℕ
  -- the changes that the journal has
  pub journal : List Change
  -- a change that a fault has left begun: a crash may find it in the journal or not
  pub begun : Option Change
  -- there is a process
  pub is_up : Bool

-- ---- openings

-- what a journal with these changes keeps
abbrev pub kept_by : Schema → List Change → Durable
kept_by schema changes = played (nothing (length schema.types)) changes

-- after an opening on a journal with these changes
abbrev pub opened_on : Schema → ℕ → ℕ → List Change → Scene
opened_on schema seats number changes = record {
  schema = schema;
  seats = seats;
  number = number;
  found = changes;
  entries = [];
  line = [];
  turn = None;
  fronts = replicate seats 0;
  journal = changes;
  begun = None;
  is_up = true;
}

-- at the first opening
abbrev pub first_scene : Schema → ℕ → Scene
first_scene schema seats = opened_on schema seats 1 []

-- the state in which this opening began
abbrev pub opening_of : Scene → State
opening_of w = opened (kept_by w.schema w.found) w.number

-- the state after the whole history
abbrev pub state_of : Scene → State
state_of w = after_all w.schema (opening_of w) w.entries

-- ---- requests

-- the change that a request makes behind the whole history
abbrev pub change_in : Scene → Entry → Option Change
change_in w entry = change_of w.schema (state_of w) (moment_in (state_of w) entry.moment) entry.request

-- how far the request of a seat has come, where the seat is in turn
abbrev pub stage_in : ℕ → Option Turn → Option Stage
stage_in seat None = None
stage_in seat (Some turn) = if turn.seat == seat then Some turn.stage else None

abbrev pub stage_of : Scene → ℕ → Option Stage
stage_of w seat = stage_in seat w.turn
