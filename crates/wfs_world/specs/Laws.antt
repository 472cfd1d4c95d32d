-- What the laws say of worlds to which events lead.
use Rattle.std.specs.Prelude.{◌≡◌, Bool, List, [], ◌++◌}
use Rattle.wfs_model.specs.History.{replies}
use Rattle.wfs_model.specs.State.{durable}
use Rattle.wfs_world.specs.declared.event.Event.{Event}
use Rattle.wfs_world.specs.declared.event.Event.TheVariants.{Crash, Reopen}
use Rattle.wfs_world.specs.Events.{happened, all_happened}
use Rattle.wfs_world.specs.Scene.{Scene, first_scene, opening_of}
use Rattle.wfs_world.specs.Sound.{IsRecovered, Begins, all_answered, told, unanswered}

-- the replies of the history are what ends of turns answered since the opening, and then the one to the request that is still in turn
abbrev pub AreReplied : List Event → Scene → Type 0
AreReplied events w = replies w.schema (opening_of w) w.entries ≡ all_answered [] (first_scene w.schema w.seats) events ++ unanswered w.turn

-- whatever happens later, the journal begins with what was found and the changes of the history
abbrev pub Stay : Scene → List Event → Type 0
Stay w more = Begins (all_happened w more).journal (told w)

-- the opening behind a crash has what the journal keeps then
abbrev pub Recovers : Scene → Bool → Type 0
Recovers w with_begun = IsRecovered w (happened w (Crash with_begun)).journal (durable (opening_of (happened (happened w (Crash with_begun)) Reopen)))
