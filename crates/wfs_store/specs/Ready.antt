-- What is at hand before a disk is asked: all that a step needs.
use Rattle.std.specs.Prelude.{◌≡◌, ℕ, ◌+◌, ◌<◌, ◌≤◌, List, length}
use Rattle.std.specs.Vec.{vec_len, vec_capacity}
use Rattle.durable_journal.specs.Recorded.{MayAppend}
use Rattle.feature_values.specs.declared.schema.Schema.{Schema}
use Rattle.journal_replay.specs.Written.{body_in, IsReadIn}
use Rattle.request_plans.specs.declared.plan.Plan.{Plan}
use Rattle.request_plans.specs.Plan.{IsPlan}
use Rattle.service_state.specs.Running.{IsPrepared}
use Rattle.wfs_model.specs.declared.change.Change.{Change}
use Rattle.wfs_model.specs.declared.entry.Entry.{Entry}
use Rattle.wfs_model.specs.State.{Durable, last_moment, moment_in}
use Rattle.wfs_store.specs.declared.course.Course.{Course}
use Rattle.wfs_store.specs.declared.course.Ready.{Ready}

-- the same but for the room that is taken, and the body that is spelled
pub record SamePast (old new : Course) : Type 0 where
  pub limits : new.limits ≡ old.limits
  pub signature : new.signature ≡ old.signature
  pub schema : new.state.schema ≡ old.state.schema
  pub state : new.state.state ≡ old.state.state
  pub entries : new.history.items ≡ old.history.items
  pub bytes : new.bytes ≡ old.bytes
  pub last : new.last ≡ old.last

-- a body spells a change, is read back as it, and fits behind a side of this length
pub record IsSpelledFor (schema : Schema) (side limit : ℕ) (body : List ℕ) (change : Change) : Type 0 where
  pub body_is : body ≡ body_in schema change
  pub read_back : IsReadIn schema change
  pub fits : side + 5 + length body ≤ limit

-- a body says a change that may come behind what is kept, and there is room for it behind a side of this length
pub record IsWritable (schema : Schema) (kept : Durable) (side limit : ℕ) (body : List ℕ) (change : Change) : Type 0 where
  pub may : MayAppend schema kept change body
  pub fits : side + 5 + length body ≤ limit

-- What is taken up of an entry: its moment, its plan, and a copy of the change that it makes.
pub record IsTaken (entry : Entry) (ready : Ready) (course : Course) : Type 0 where
  pub moment : ready.moment ≡ moment_in course.state.state entry.moment
  pub plan : IsPlan course.state.schema course.state.state ready.moment entry.request ready.plan
  pub made_is : ready.made ≡ ready.plan.change

-- a plan of an entry is prepared for the moment at which the entry is taken up
pub record IsPlanned (entry : Entry) (moment : ℕ) (plan : Plan) (course : Course) : Type 0 where
  pub moment_is : moment ≡ moment_in course.state.state entry.moment
  pub later : course.state.state.last ≤ moment
  pub most : moment ≤ last_moment
  pub is_plan : IsPlan course.state.schema course.state.state moment entry.request plan
  pub prepared : IsPrepared plan moment course.state
  pub few : course.bytes + entry.size ≤ course.limits.bytes

-- an entry can be carried out without more memory
pub record IsReady (entry : Entry) (ready : Ready) (course : Course) : Type 0 where
  pub planned : IsPlanned entry ready.moment ready.plan course
  pub made : ready.made ≡ ready.plan.change
  pub room : vec_len course.history < vec_capacity course.history
