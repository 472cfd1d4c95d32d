-- The messages of a connection (RFC 9112).
use Rattle.std.specs.Prelude.{ℕ, ◌≡◌, List, [], ◌∷◌, ◌++◌, length, take, drop, Bool, false, nat_lt, if◌then◌else◌, Result, Ok, Err}
use Rattle.httparse.specs.Grammar.{RequestHead}
use Rattle.http_session.specs.declared.message.Ending.{Ending}
use Rattle.http_session.specs.declared.message.Ending.TheVariants as ending
use Rattle.http_session.specs.declared.message.Message.{Message}
use Rattle.http_session.specs.declared.plan.Body.{Body}
use Rattle.http_session.specs.declared.plan.Body.TheVariants as body
use Rattle.http_session.specs.declared.plan.Plan.{Plan}
use Rattle.http_session.specs.Heads.{HeadFound, head, no_head, IsHead}
use Rattle.http_session.specs.Fields.{judged}
use Rattle.http_session.specs.Chunks.{Stop, whole, wrong, large, part, sent_limit, ReadsChunks}

-- a body's content and the bytes after it, or how the bytes end within it
pub data BodyFound : Type 0 where
  content : List ℕ → List ℕ → BodyFound
  no_content : Ending → BodyFound

-- a body of so many bytes
abbrev pub sized_body : ℕ → List ℕ → BodyFound
sized_body n bytes = if nat_lt (length bytes) n then no_content ending.Cut else content (take n bytes) (drop n bytes)

-- How chunks that were looked for in the first bytes, up to the limit, end. What is not whole by then is too large at
-- the next byte.
abbrev pub chunked_body : List ℕ → Stop → BodyFound
chunked_body bytes (whole found rest) = content found (rest ++ drop sent_limit bytes)
chunked_body bytes wrong = no_content ending.BadHead
chunked_body bytes large = no_content ending.TooLarge
chunked_body bytes part = if nat_lt sent_limit (length bytes) then no_content ending.TooLarge else no_content ending.Cut

abbrev pub IsBody : Body → List ℕ → BodyFound → Type 0
IsBody (body.Sized n) bytes found = found ≡ sized_body n bytes
IsBody body.Chunked bytes found = (n : ℕ) × (stop : Stop) × ReadsChunks n [] (take sent_limit bytes) stop × (found ≡ chunked_body bytes stop)

-- What the bytes of a connection begin with: a message, whether the line 100 Continue is due, and the bytes after it;
-- or how they end, and whether that line is due by then.
pub data Frame : Type 0 where
  message : Message → Bool → List ℕ → Frame
  ended : Ending → Bool → Frame

abbrev pub is_due : Frame → Bool
is_due (message m due rest) = due
is_due (ended e due) = due

abbrev pub framed : List ℕ → List ℕ → Plan → BodyFound → Frame
framed method target plan (content found rest) =
    message (record { method = method; target = target; body = found; close = plan.close }) plan.due rest
framed method target plan (no_content e) = ended e plan.due

-- the frame of a head of this method and target, whose body stands in front of the bytes
abbrev pub HasBody : List ℕ → List ℕ → Plan → List ℕ → Frame → Type 0
HasBody method target plan bytes frame = (found : BodyFound) × IsBody plan.body bytes found × (frame ≡ framed method target plan found)

-- the head's fields are judged before its body
abbrev pub IsFramed : RequestHead → Result Plan Ending → List ℕ → Frame → Type 0
IsFramed h (Err e) bytes frame = frame ≡ ended e false
IsFramed h (Ok plan) bytes frame = HasBody h.method h.target plan bytes frame

abbrev pub FollowsHead : HeadFound → Frame → Type 0
FollowsHead (head h rest) frame = IsFramed h (judged h) rest frame
FollowsHead (no_head e) frame = frame ≡ ended e false

abbrev pub IsNext : List ℕ → Frame → Type 0
IsNext bytes frame = (found : HeadFound) × IsHead bytes found × FollowsHead found frame

-- Frames: the messages of all the bytes in order, each with whether the line 100 Continue is due, and how they end
pub record Sent : Type 0 where
  pub message : Message
  pub due : Bool

abbrev pub Frames : List ℕ → List Sent → Ending → Bool → Type 0
Frames bytes [] e due = IsNext bytes (ended e due)
Frames bytes (s ∷ more) e due = (rest : List ℕ) × IsNext bytes (message s.message s.due rest) × Frames rest more e due
