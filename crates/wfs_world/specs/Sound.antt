-- What holds of each world to which events lead.
use Rattle.std.specs.Prelude.{◌≡◌, ◌+◌, ◌≤◌, List, [], ◌∷◌, ◌++◌, length, All, Option, Some, None}
use Rattle.std.specs.Option.{option_to_list}
use Rattle.wfs_model.specs.declared.change.Change.{Change}
use Rattle.wfs_model.specs.declared.reply.Reply.{Reply}
use Rattle.wfs_model.specs.History.{IsLegal}
use Rattle.wfs_model.specs.Played.{accepted}
use Rattle.wfs_model.specs.State.{Durable}
use Rattle.wfs_world.specs.declared.event.Event.{Event}
use Rattle.wfs_world.specs.declared.event.Event.TheVariants.{Leave, Crash, Reopen}
use Rattle.wfs_world.specs.declared.event.Seen.{Seen}
use Rattle.wfs_world.specs.declared.event.Seen.TheVariants.{Answer}
use Rattle.wfs_world.specs.declared.turn.Stage.{Stage}
use Rattle.wfs_world.specs.declared.turn.Stage.TheVariants.{Put as IsPut, Entered}
use Rattle.wfs_world.specs.declared.turn.Turn.{Turn}
use Rattle.wfs_world.specs.Events.{IsEventOf, MayAllHappen, happened, all_happened, seen}
use Rattle.wfs_world.specs.Scene.{Scene, first_scene, kept_by, opening_of, change_in}

-- the changes that were found, and those of the history
abbrev pub told : Scene → List Change
told w = w.found ++ accepted w.schema (opening_of w) w.entries

-- the change of the request in turn, where it was put and has not entered the history
abbrev pub pending_at : Scene → Stage → List Change
pending_at w (IsPut entry) = option_to_list (change_in w entry)
pending_at w stage = []

abbrev pub pending_in : Scene → Option Turn → List Change
pending_in w None = []
pending_in w (Some turn) = pending_at w turn.stage

abbrev pub pending : Scene → List Change
pending w = pending_in w w.turn

-- a world that is up
pub record IsSound (w : Scene) : Type 0 where
  -- the history has changing requests alone, at moments that never go back
  pub legal : IsLegal w.schema (opening_of w) w.entries
  -- no seat has seen more than there is
  pub fronts : All (λ front. front ≤ length w.entries) w.fronts
  -- The journal has what was found and the changes of the history, and then at most one: that of the request that was put and has not entered.
  pub journal : w.journal ≡ told w ++ pending w

-- events of a schema that lead here from the beginning
pub record IsReached (events : List Event) (w : Scene) : Type 0 where
  pub of : All (IsEventOf w.schema) events
  pub may : MayAllHappen (first_scene w.schema w.seats) events
  pub is : w ≡ all_happened (first_scene w.schema w.seats) events

-- changes that begin with others
pub record Begins (changes front : List Change) : Type 0 where
  pub rest : List Change
  pub is : changes ≡ front ++ rest

-- What a new opening begins with, behind a crash of this world: what the journal's list keeps, under the next number. The list has what was found when this
-- opening began and the changes of its history, in order and with none skipped, and then at most one change more.
pub record IsRecovered (w : Scene) (changes : List Change) (began : Durable) : Type 0 where
  pub kept : began ≡ record (kept_by w.schema changes) { opening = w.number + 1 }
  pub rest : List Change
  pub list : changes ≡ told w ++ rest
  pub one : length rest ≤ 1

-- ---- answers

-- the reply to the request in turn, where it has entered the history and is not over
abbrev pub unanswered_at : Stage → List Reply
unanswered_at (Entered reply) = reply ∷ []
unanswered_at stage = []

abbrev pub unanswered : Option Turn → List Reply
unanswered None = []
unanswered (Some turn) = unanswered_at turn.stage

abbrev pub answer_in : Seen → List Reply
answer_in (Answer reply) = reply ∷ []
answer_in seen = []

-- the answers at the ends of turns since the opening began, with one event more
abbrev pub answered_by : List Reply → Scene → Event → List Reply
answered_by before w (Leave seat) = before ++ answer_in (seen w (Leave seat))
answered_by before w (Crash with_begun) = []
answered_by before w Reopen = []
answered_by before w event = before

abbrev pub all_answered : List Reply → Scene → List Event → List Reply
all_answered before w [] = before
all_answered before w (event ∷ events) = all_answered (answered_by before w event) (happened w event) events
