-- How parts of the code change the turn.
use Rattle.std.specs.Prelude.{ℕ, ◌++◌, Option, Some, None}
use Rattle.wfs_model.specs.declared.change.Change.{Change}
use Rattle.wfs_model.specs.declared.entry.Entry.{Entry}
use Rattle.wfs_world.specs.declared.event.PutOutcome.{PutOutcome}
use Rattle.wfs_world.specs.declared.turn.Stage.{Stage}
use Rattle.wfs_world.specs.declared.turn.Stage.TheVariants.{Taken, Put as IsPut}
use Rattle.wfs_world.specs.declared.turn.Turn.{Turn}
use Rattle.wfs_world.specs.Events.{stage_after, added, begun_after}
use Rattle.wfs_world.specs.Scene.{Scene}

-- how far the request in turn has come, whose seat it may be
abbrev pub stage_at : Option Turn → Option Stage
stage_at None = None
stage_at (Some turn) = Some turn.stage

-- how far a request has come then, of which nothing was done
abbrev pub stage_put : Stage → PutOutcome → Stage
stage_put (Taken entry) outcome = stage_after entry outcome
stage_put stage outcome = stage

abbrev pub turn_put : Option Turn → PutOutcome → Option Turn
turn_put None outcome = None
turn_put (Some turn) outcome = Some (record { seat = turn.seat; stage = stage_put turn.stage outcome })

-- a put of the request in turn, whose change this is
abbrev pub put_as : Scene → Option Change → PutOutcome → Scene
put_as w change outcome = record w { turn = turn_put w.turn outcome; journal = w.journal ++ added change outcome; begun = begun_after w.begun change outcome }

-- the request that was put and has not entered the history
abbrev pub put_at : Stage → Option Entry
put_at (IsPut entry) = Some entry
put_at stage = None

abbrev pub put_in : Option Turn → Option Entry
put_in None = None
put_in (Some turn) = put_at turn.stage

-- the same at a moment
abbrev pub at_moment : ℕ → Option Entry → Option Entry
at_moment moment None = None
at_moment moment (Some entry) = Some (record entry { moment = moment })
