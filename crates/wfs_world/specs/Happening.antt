-- How calls answer events.
use Rattle.std.specs.Prelude.{◌≡◌, ℕ, ◌<◌, List, length, take, slice_get, Some, Result, Err, IfOk, OnOk, OnErr}
use Rattle.wfs_world.specs.declared.event.Event.{Event}
use Rattle.wfs_world.specs.declared.event.Seen.{Seen}
use Rattle.wfs_world.specs.declared.event.WorldFault.{WorldFault}
use Rattle.wfs_world.specs.declared.event.WorldFault.TheVariants.{NotNow}
use Rattle.wfs_world.specs.Events.{MayHappen, happened, seen, MayAllHappen, all_happened}
use Rattle.wfs_world.specs.Scene.{Scene}

-- An event happens, or it may not, or memory ran out, and then nothing is changed.
pub record Happens (before : Scene) (event : Event) (result : Result Seen WorldFault) (now : Scene) : Type 0 where
  pub may : OnOk result (MayHappen before event)
  pub left : OnOk result (now ≡ happened before event)
  pub seen : IfOk result (λ s. s ≡ seen before event)
  pub not_now : result ≡ Err NotNow → MayHappen before event → ⊥
  pub err : OnErr result (now ≡ before)

-- all events happen, one behind the other
pub record AllHappen (before : Scene) (events : List Event) (now : Scene) : Type 0 where
  pub may : MayAllHappen before events
  pub left : now ≡ all_happened before events

-- Just those before one of the events happen. That one may not happen then, or memory ran out.
pub record Stops (before : Scene) (events : List Event) (result : Result (List Seen) WorldFault) (now : Scene) : Type 0 where
  pub count : ℕ
  pub within : count < length events
  pub front : AllHappen before (take count events) now
  pub not_now : result ≡ Err NotNow → (event : Event) → slice_get events count ≡ Some event → MayHappen now event → ⊥
