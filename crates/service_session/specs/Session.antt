-- What a session over one link comes to, for any service.
use Rattle.std.specs.Prelude.{◌≡◌, ℕ, ◌-◌, ◌≤◌, ◌==◌, ◌||◌, Bool, true, false, List, [], ◌++◌, Option, Some, None, IfSome, slice_get, ⊤}
use Rattle.wfs_ends.specs.Ends.{Given, Shown, Rose, given_more, later_of}
use Rattle.http_session.specs.declared.message.Ending.{Ending}
use Rattle.http_session.specs.declared.message.Ending.TheVariants as ending
use Rattle.http_session.specs.declared.message.Message.{Message}
use Rattle.http_session.specs.Frames.{message, ended, IsNext}
use Rattle.http_session.specs.Answers.{interim, continue_line, Awaits, HasPlan}
use Rattle.http_session.specs.Reading.{ahead, IsCalm}
use Rattle.reply_documents.specs.Refusals.{fixed_text}
use Rattle.service_session.specs.declared.answered.Answered.{Answered}
use Rattle.service_session.specs.declared.ending.SessionEnd.{SessionEnd}
use Rattle.service_session.specs.declared.ending.SessionEnd.TheVariants as end
use Rattle.service_session.specs.declared.service.Service.{Ghosts as Meaning}
use Rattle.service_session.specs.Answers.{answer_text}

-- how many messages a session has at most
abbrev pub most_messages : ℕ
most_messages = 1_000_000

-- How far a session has come: the bytes that are still to be judged, the moments still to come, the service, what was given, and
-- how many messages may still come.
pub record Point (S : Type 0) : Type 0 where
  pub bytes : List ℕ
  pub moments : List ℕ
  pub service : S
  pub given : List ℕ
  pub left : ℕ

-- the beginning of a session
abbrev pub begun : {S : Type 0} → List ℕ → List ℕ → S → Point S
begun input moments service = record { bytes = input; moments = moments; service = service; given = []; left = most_messages }

-- The next message is judged at the next moment, and answered, behind the line that asks for its body where that is due. The answer
-- closes the session where the message asks for that, or is the last one that the session may have.
pub record IsAnswered {S : Type 0} (mean : Meaning S) (p : Point S) (closes : Bool) (q : Point S) : Type 0 where
  pub sent : Message
  pub due : Bool
  pub rest : List ℕ
  pub next : IsNext p.bytes (message sent due rest)
  pub moment : ℕ
  pub now : slice_get p.moments 0 ≡ Some moment
  pub answer : Answered
  pub judged : mean.judges p.service sent (p.left == 1) moment answer q.service
  pub closing : closes ≡ (sent.close || (p.left == 1))
  pub bytes : q.bytes ≡ rest
  pub moments : q.moments ≡ later_of p.moments
  pub given : q.given ≡ p.given ++ (interim due ++ answer_text answer (mean.schema p.service) closes)
  pub left : q.left ≡ p.left - 1

-- some messages were answered, and no answer closed the session
pub data Reaches {S : Type 0} (mean : Meaning S) (p : Point S) : Point S → Type 0 where
  here : Reaches mean p p
  on : (q r : Point S) → Reaches mean p q → IsAnswered mean q false r → Reaches mean p r

-- what a session left behind: how it ended, what was given, the service, the moments still to come, and what is left of the
-- input, where the end says that
pub record Final (S : Type 0) : Type 0 where
  pub end : SessionEnd
  pub given : List ℕ
  pub service : S
  pub moments : List ℕ
  pub leaves : Option (List ℕ)

-- an end at a point, at which this text was given
abbrev pub final : {S : Type 0} → SessionEnd → Point S → List ℕ → Final S
final e p text = record { end = e; given = p.given ++ text; service = p.service; moments = p.moments; leaves = None }

-- the same, where some bytes were taken behind the point, and these are left
abbrev pub final_at : {S : Type 0} → SessionEnd → Point S → List ℕ → List ℕ → Final S
final_at e p text rest = record { end = e; given = p.given ++ text; service = p.service; moments = p.moments; leaves = Some rest }

-- an end with an answer that leads to a point, of which this much was given
abbrev pub final_with : {S : Type 0} → SessionEnd → Point S → List ℕ → Final S
final_with e q given = record { end = e; given = given; service = q.service; moments = q.moments; leaves = None }

abbrev pub IsLeft : Option (List ℕ) → Option (List ℕ) → Type 0
IsLeft None left = ⊤
IsLeft (Some rest) left = left ≡ Some rest

-- the row by which an ending is refused, where it is no end of the input
abbrev pub row_of : Ending → Option ℕ
row_of ending.End = None
row_of ending.Cut = None
row_of ending.BadHead = Some 1
row_of ending.TooLarge = Some 2
row_of ending.NoLength = Some 3
row_of ending.Coding = Some 4

-- the bytes begin with these, which were taken
pub record Begins (bytes taken : List ℕ) : Type 0 where
  pub rest : List ℕ
  pub parts : bytes ≡ taken ++ rest

-- How a session ends at a point. The input ends, between two messages or within one; or it goes on in a way that is refused; or
-- an answer closes the session. Or the input fails: what was taken of it behind the point holds no whole message, and the rest is
-- left. Or the output fails, within the line that asks for a body, within an answer, which stays carried out, or within a refusal.
-- Or memory runs out while a message is read, which is refused.
pub data Finishes {S : Type 0} (mean : Meaning S) (p : Point S) : Final S → Type 0 where
  input_ended : (due : Bool) → IsNext p.bytes (ended ending.End due) → Finishes mean p (final end.Ended p (interim due))
  input_cut : (due : Bool) → IsNext p.bytes (ended ending.Cut due) → Finishes mean p (final end.Cut p (interim due))
  refused : (e : Ending) (due : Bool) (row : ℕ) → IsNext p.bytes (ended e due) → row_of e ≡ Some row → Finishes mean p (final end.Unframed p (interim due ++ fixed_text row true))
  answered : (q : Point S) → IsAnswered mean p true q → Finishes mean p (final_with end.Closed q q.given)
  read_failed : (taken rest : List ℕ) (due : Bool) → p.bytes ≡ taken ++ rest → Awaits taken due → Finishes mean p (final_at end.ReadFault p (interim due) rest)
  line_failed : (taken rest front : List ℕ) → p.bytes ≡ taken ++ rest → HasPlan taken true → Begins continue_line front → Finishes mean p (final_at end.WriteFault p front rest)
  answer_failed : (closes : Bool) (q : Point S) (front : List ℕ) → IsAnswered mean p closes q → Begins q.given (p.given ++ front) → Finishes mean p (final_with end.WriteFault q (p.given ++ front))
  refusal_failed : (e : Ending) (due : Bool) (row : ℕ) (front : List ℕ) → IsNext p.bytes (ended e due) → row_of e ≡ Some row → Begins (fixed_text row true) front → Finishes mean p (final end.WriteFault p (interim due ++ front))
  no_memory : (taken rest : List ℕ) (due : Bool) → p.bytes ≡ taken ++ rest → (due ≡ true → HasPlan taken true) → Finishes mean p (final_at end.NoMemory p (interim due ++ fixed_text 27 true) rest)
  memory_failed : (taken rest : List ℕ) (due : Bool) (front : List ℕ) → p.bytes ≡ taken ++ rest → (due ≡ true → HasPlan taken true) → Begins (fixed_text 27 true) front → Finishes mean p (final_at end.WriteFault p (interim due ++ front) rest)

-- ---- the ends

-- counts never fall, and no borrow is exchanged
pub record Stays (old new : Shown) : Type 0 where
  pub takes : old.failed_takes ≤ new.failed_takes
  pub puts : old.failed_puts ≤ new.failed_puts
  pub place : new.place ≡ old.place

-- a fault's cause
abbrev pub HasCause : SessionEnd → Shown → Shown → Type 0
HasCause end.ReadFault old new = Rose old.failed_takes new.failed_takes
HasCause end.WriteFault old new = Rose old.failed_puts new.failed_puts
HasCause end.Ended old new = ⊤
HasCause end.Closed old new = ⊤
HasCause end.Unframed old new = ⊤
HasCause end.Cut old new = ⊤
HasCause end.NoMemory old new = ⊤

-- no put failed in between
abbrev pub IsWritable : Shown → Shown → Type 0
IsWritable old new = new.failed_puts ≡ old.failed_puts

-- A take failed in no session that ended otherwise than by a read fault, and a put in none that ended otherwise than by a write
-- fault.
abbrev pub IsCalmBut : SessionEnd → Shown → Shown → Type 0
IsCalmBut e old new = ((e ≡ end.ReadFault → ⊥) → IsCalm old new) × ((e ≡ end.WriteFault → ⊥) → IsWritable old new)

-- what became of a service: what always may, and its schema is the same
pub record Becomes {S : Type 0} (mean : Meaning S) (service service' : S) : Type 0 where
  pub leads : mean.leads service service'
  pub schema : mean.schema service' ≡ mean.schema service

-- a session on an input at these moments: what it came to, what was given and kept of it, and where the clock stands: one moment
-- was told for each message that was judged
pub record IsHeld {S : Type 0} (mean : Meaning S) (input moments : List ℕ) (service : S) (old : Shown) (e : SessionEnd) (service' : S) (moments' : Option (List ℕ)) (new : Shown) : Type 0 where
  pub point : Point S
  pub reaches : Reaches mean (begun input moments service) point
  pub final : Final S
  pub finishes : Finishes mean point final
  pub end : final.end ≡ e
  pub given : new.given ≡ given_more old.given final.given
  pub serves : final.service ≡ service'
  pub coming : moments' ≡ Some final.moments
  pub left : IsLeft final.leaves new.left

-- where the input and the clock tell
abbrev pub WhereTold : Option (List ℕ) → Shown → (List ℕ → List ℕ → Type 0) → Type 0
WhereTold moments old P = IfSome moments (λ ms. IfSome old.left (λ input. P input ms))

-- A session. What became of the service, and the causes of its end, are said also where the input or the clock do not tell.
pub record IsSession {S : Type 0} (mean : Meaning S) (moments : Option (List ℕ)) (service : S) (old : Shown) (e : SessionEnd) (service' : S) (moments' : Option (List ℕ)) (new : Shown) : Type 0 where
  pub cause : HasCause e old new
  pub calm : IsCalmBut e old new
  pub place : new.place ≡ old.place
  pub becomes : Becomes mean service service'
  pub told : WhereTold moments old (λ input ms. IsHeld mean input ms service old e service' moments' new)

-- ---- rounds

-- the reader, the link, the clock and the service stand at a point of a session, behind what was given before it
pub record IsAt {S : Type 0} (first : Given) (p : Point S) (buffered : List ℕ) (shown : Shown) (moments : Option (List ℕ)) (service : S) (left : ℕ) : Type 0 where
  pub bytes : ahead buffered shown ≡ Some p.bytes
  pub coming : moments ≡ Some p.moments
  pub serves : service ≡ p.service
  pub given : shown.given ≡ given_more first p.given
  pub remains : left ≡ p.left

-- where a round leads: on to the next point, or to an end
pub record GoesOn {S : Type 0} (mean : Meaning S) (first : Given) (p : Point S) (buffered : List ℕ) (shown : Shown) (moments : Option (List ℕ)) (service : S) (left : ℕ) : Type 0 where
  pub to : Point S
  pub answered : IsAnswered mean p false to
  pub at : IsAt first to buffered shown moments service left

pub record IsOver {S : Type 0} (mean : Meaning S) (first : Given) (p : Point S) (e : SessionEnd) (shown : Shown) (moments : Option (List ℕ)) (service : S) : Type 0 where
  pub final : Final S
  pub finishes : Finishes mean p final
  pub end : final.end ≡ e
  pub given : shown.given ≡ given_more first final.given
  pub serves : final.service ≡ service
  pub coming : moments ≡ Some final.moments
  pub left : IsLeft final.leaves shown.left
