-- What the requests of a drill come to, one after the other.
use Rattle.std.specs.Prelude.{◌≡◌, ℕ, ◌+◌, List, [], ◌∷◌, ◌++◌, length, Option, None, ⊤}
use Rattle.feature_values.specs.declared.schema.Schema.{Schema}
use Rattle.wfs_model.specs.declared.change.Change.{Change}
use Rattle.wfs_model.specs.declared.entry.Entry.{Entry}
use Rattle.wfs_model.specs.declared.limits.FullAt.{FullAt}
use Rattle.wfs_model.specs.declared.limits.Limits.{Limits}
use Rattle.wfs_model.specs.declared.reply.Reply.{Reply}
use Rattle.wfs_model.specs.declared.reply.Reply.TheVariants.{Collection, Locked}
use Rattle.wfs_model.specs.declared.request.Request.{Request}
use Rattle.wfs_model.specs.Changing.{IsChange}
use Rattle.wfs_model.specs.Full.{full_at}
use Rattle.wfs_model.specs.History.{after_all, reply_after, timed}
use Rattle.wfs_model.specs.Read.{read}
use Rattle.wfs_model.specs.State.{State, clamped, durable}

-- how many features a reply says that were counted, and how many it says that a lock took
abbrev pub matched_in : Reply → ℕ
matched_in (Collection moment matched features lock next previous) = matched
matched_in reply = 0

abbrev pub taken_in : Reply → ℕ
taken_in (Locked lock taken missed) = length taken
taken_in reply = 0

-- what stands at the beginning of a drill: the opening, the limits, the side's length and how long the body of a change is
pub record Ground : Type 0 where
  pub schema : Schema
  pub opening : State
  pub limits : Limits
  pub side : ℕ
  pub body : Change → ℕ

-- How far a drill has come: how many requests were carried out, the history, and the sums of what was counted and of what was locked.
pub record Course : Type 0 where
  pub requests : ℕ
  pub entries : List Entry
  pub matched : ℕ
  pub locked : ℕ

abbrev pub at_first : Course
at_first = record { requests = 0; entries = []; matched = 0; locked = 0 }

-- the state that the history leaves
abbrev pub state_at : Ground → Course → State
state_at ground course = after_all ground.schema ground.opening course.entries

-- The next request comes at a moment that is the number of requests before it, of seat 0 and of no size.
abbrev pub entry_at : Ground → Course → Request → Entry
entry_at ground course request = timed (state_at ground course) (record { seat = 0; moment = course.requests; size = 0; request = request })

-- the limit that the next request would pass
abbrev pub full_next : Ground → Course → Request → Option FullAt
full_next ground course request = full_at ground.schema ground.body ground.side ground.opening ground.limits course.entries (entry_at ground course request)

-- a change is entered, with the reply of its step there
abbrev pub entered : Ground → Course → Request → Course
entered ground course request = record {
  requests = course.requests + 1;
  entries = course.entries ++ entry_at ground course request ∷ [];
  matched = course.matched;
  locked = course.locked + taken_in (reply_after ground.schema ground.opening course.entries (entry_at ground course request));
}

-- a read is answered by what the history leaves
abbrev pub counted : Ground → Course → Request → Course
counted ground course request = record course {
  requests = course.requests + 1;
  matched = course.matched + matched_in (read ground.schema (durable (state_at ground course)) (clamped course.requests) request);
}

-- These requests were carried out, one after the other, and none passed a limit.
pub data Carried (ground : Ground) : List Request → Course → Type 0 where
  none : Carried ground [] at_first
  changed : (before : List Request) (course : Course) (request : Request) → Carried ground before course → IsChange request → full_next ground course request ≡ None
      → Carried ground (before ++ request ∷ []) (entered ground course request)
  looked : (before : List Request) (course : Course) (request : Request) → Carried ground before course → (IsChange request → ⊥)
      → Carried ground (before ++ request ∷ []) (counted ground course request)

-- these requests begin with those, behind which this one is the next
pub record ComesNext (requests before : List Request) (next : Request) : Type 0 where
  pub behind : List Request
  pub parts : requests ≡ before ++ next ∷ behind
