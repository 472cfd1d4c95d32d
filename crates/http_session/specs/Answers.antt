-- What the reader answers of the bytes that are still to be read.
use Rattle.std.specs.Prelude.{ℕ, ◌≡◌, ◌<◌, ◌≤◌, ◌⊎◌, List, [], ◌++◌, length, Bool, true, false, if◌then◌else◌, Option, Some, IfSome, codes, Ok, Err}
use Rattle.wfs_ends.specs.Ends.{Shown, Rose, AllGrow, GivesAll, GivesFront, given_more}
use Rattle.http_session.specs.declared.message.Ending.{Ending}
use Rattle.http_session.specs.declared.message.Ending.TheVariants as ending
use Rattle.http_session.specs.declared.message.Next.{Next}
use Rattle.http_session.specs.declared.message.Next.TheVariants as next
use Rattle.http_session.specs.Frames.{Frame, message, ended, is_due, no_content, IsBody, HasBody, IsNext, Sent, Frames}
use Rattle.http_session.specs.Heads.{head, head_limit, IsHead}
use Rattle.http_session.specs.Reading.{ahead, Reached, IsFault, IsCalm}
use Rattle.http_session.specs.Fields.{judged}
use Rattle.http_session.specs.declared.plan.Plan.{Plan}
use Rattle.http_session.specs.declared.start.Start.{Start}
use Rattle.http_session.specs.declared.start.StartRead.{StartRead}
use Rattle.http_session.specs.declared.start.StartRead.TheVariants as startread
use Rattle.httparse.specs.Grammar.{RequestHead, HasNoRequest}
use Rattle.httparse.specs.Spans.{IsRequestAt}
use Rattle.httparse.specs.declared.spans.HeaderSpan.{HeaderSpan}
use Rattle.httparse.specs.declared.spans.RequestSpans.{RequestSpans}

-- the interim line that asks for a body (RFC 9110, section 15.2.1), and the empty line behind it
abbrev pub continue_line : List ℕ
continue_line = codes "HTTP/1.1 100 Continue\r\n\r\n"

-- what is written where it is due
abbrev pub interim : Bool → List ℕ
interim due = if due then continue_line else []

-- each frame has the line due
abbrev pub OnlyDue : Bool → (Frame → Type 0) → Type 0
OnlyDue due is_frame = (frame : Frame) → is_frame frame → due ≡ true → is_due frame ≡ true

-- The answer is the frame, and what is behind a message is still to be read. A fault and want of memory say of it that
-- the line is due, if it was written.
abbrev pub Answers : (Frame → Type 0) → Bool → Next → Option (List ℕ) → Type 0
Answers is_frame due (next.Message m) left = (rest : List ℕ) × is_frame (message m due rest) × (left ≡ Some rest)
Answers is_frame due next.End left = is_frame (ended ending.End due)
Answers is_frame due next.BadHead left = is_frame (ended ending.BadHead due)
Answers is_frame due next.TooLarge left = is_frame (ended ending.TooLarge due)
Answers is_frame due next.NoLength left = is_frame (ended ending.NoLength due)
Answers is_frame due next.Coding left = is_frame (ended ending.Coding due)
Answers is_frame due next.Cut left = is_frame (ended ending.Cut due)
Answers is_frame due next.ReadFault left = OnlyDue due is_frame
Answers is_frame due next.WriteFault left = OnlyDue due is_frame
Answers is_frame due next.OutOfMemory left = OnlyDue due is_frame

-- the text was written, and no put failed
pub record GaveAll (before : Shown) (text : List ℕ) (after : Shown) : Type 0 where
  pub given : after.given ≡ given_more before.given text
  pub calm : after.failed_puts ≡ before.failed_puts

-- some front of the text was written, and then the link failed to write
pub record GaveFront (before : Shown) (text : List ℕ) (after : Shown) : Type 0 where
  pub front : List ℕ
  pub rest : List ℕ
  pub parts : text ≡ front ++ rest
  pub given : after.given ≡ given_more before.given front
  pub cause : Rose before.failed_puts after.failed_puts

-- what was written: the line where it is due, once; where the link failed to write, some front of it
abbrev pub Written : Bool → Next → Shown → Shown → Type 0
Written due next.WriteFault before after = (due ≡ true) × GaveFront before continue_line after
Written due next.ReadFault before after = GaveAll before (interim due) after × Rose before.failed_takes after.failed_takes
Written due (next.Message m) before after = GaveAll before (interim due) after
Written due next.End before after = GaveAll before (interim due) after
Written due next.BadHead before after = GaveAll before (interim due) after
Written due next.TooLarge before after = GaveAll before (interim due) after
Written due next.NoLength before after = GaveAll before (interim due) after
Written due next.Coding before after = GaveAll before (interim due) after
Written due next.Cut before after = GaveAll before (interim due) after
Written due next.OutOfMemory before after = GaveAll before (interim due) after

-- the bytes hold a head whose fields say whether the line is due
abbrev pub HasPlan : List ℕ → Bool → Type 0
HasPlan bytes due = (h : RequestHead) × (rest : List ℕ) × IsHead bytes (head h rest) × (plan : Plan) × (judged h ≡ Ok plan) × (due ≡ plan.due)

-- the bytes hold no whole head, whether or not one can still come of them
abbrev pub AwaitsHead : List ℕ → Type 0
AwaitsHead bytes = HasNoRequest bytes × (length bytes < head_limit)

-- The bytes hold no whole message: no head, so that no line is due; or a head, and the input would end within its body.
abbrev pub Awaits : List ℕ → Bool → Type 0
Awaits bytes due = (AwaitsHead bytes × (due ≡ false)) ⊎ IsNext bytes (ended ending.Cut due)

-- What was taken by a fault, and by want of memory, stands in front of what the link has left. It says whether the line
-- was to be written: at a fault just that was done, and at want of memory no more. At a read fault it holds no whole
-- message.
abbrev pub Breaks : (awaits plans : List ℕ → Bool → Type 0) → Bool → Next → Option (List ℕ) → Shown → Type 0
Breaks awaits plans due next.ReadFault ahead after = (r : Reached ahead after) × awaits r.taken due
Breaks awaits plans due next.WriteFault ahead after = (r : Reached ahead after) × plans r.taken true
Breaks awaits plans due next.OutOfMemory ahead after = (r : Reached ahead after) × (due ≡ true → plans r.taken true)
Breaks awaits plans due (next.Message m) ahead after = Unit {0}
Breaks awaits plans due next.End ahead after = Unit {0}
Breaks awaits plans due next.BadHead ahead after = Unit {0}
Breaks awaits plans due next.TooLarge ahead after = Unit {0}
Breaks awaits plans due next.NoLength ahead after = Unit {0}
Breaks awaits plans due next.Coding ahead after = Unit {0}
Breaks awaits plans due next.Cut ahead after = Unit {0}

-- counts never fall, what was passed on stays so, and no borrow in the link is exchanged
pub record Stays (before after : Shown) : Type 0 where
  pub takes : before.failed_takes ≤ after.failed_takes
  pub puts : before.failed_puts ≤ after.failed_puts
  pub passed : AllGrow before.passed after.passed
  pub place : after.place ≡ before.place

-- What a call answered and wrote, where the bytes that were to be read have these frames. Where a take failed, the answer is the read
-- fault: no message is told then, and no ending. Where a put failed, it is the write fault.
pub record ReadsBy (frames : List ℕ → Frame → Type 0) (awaits plans : List ℕ → Bool → Type 0) (buffered : List ℕ) (before : Shown) (answer : Next) (buffered' : List ℕ) (after : Shown) : Type 0 where
  pub due : Bool
  pub answers : IfSome (ahead buffered before) (λ bytes. Answers (frames bytes) due answer (ahead buffered' after))
  pub written : Written due answer before after
  pub breaks : Breaks awaits plans due answer (ahead buffered before) after
  pub stays : Stays before after
  pub calm : (answer ≡ next.ReadFault → ⊥) → IsCalm before after

-- one call of the reader
abbrev pub Reads : List ℕ → Shown → Next → List ℕ → Shown → Type 0
Reads = ReadsBy IsNext Awaits HasPlan

-- the rest of a message whose head said this
abbrev pub IsPlanned : Plan → List ℕ → Bool → Type 0
IsPlanned plan bytes due = due ≡ plan.due

abbrev pub AwaitsBody : Plan → List ℕ → Bool → Type 0
AwaitsBody plan bytes due = IsBody plan.body bytes (no_content ending.Cut) × (due ≡ plan.due)

abbrev pub ReadsRest : Start → List ℕ → Shown → Next → List ℕ → Shown → Type 0
ReadsRest start = ReadsBy (HasBody start.method start.target start.plan) (AwaitsBody start.plan) (IsPlanned start.plan)

-- the answer at an ending
abbrev pub next_of : Ending → Next
next_of ending.End = next.End
next_of ending.Cut = next.Cut
next_of ending.BadHead = next.BadHead
next_of ending.TooLarge = next.TooLarge
next_of ending.NoLength = next.NoLength
next_of ending.Coding = next.Coding

-- the start of a message: what its head says
abbrev pub IsStart : StartRead → RequestHead → Type 0
IsStart (startread.Start s) h = (s.method ≡ h.method) × (s.target ≡ h.target) × (judged h ≡ Ok s.plan)
IsStart (startread.Ended e) h = judged h ≡ Err e
IsStart startread.OutOfMemory h = Unit {0}

-- what the rest of a message comes to, apart from what is written
pub record IsBodyNext (start : Start) (answer : Next) (buffered : List ℕ) (before : Shown) (buffered' : List ℕ) (after : Shown) : Type 0 where
  pub answers : IfSome (ahead buffered before) (λ bytes. Answers (HasBody start.method start.target start.plan bytes) start.plan.due answer (ahead buffered' after))
  pub fault : answer ≡ next.ReadFault → (q : IsFault (ahead buffered before) before after) × IsBody start.plan.body q.reached.taken (no_content ending.Cut)
  pub memory : answer ≡ next.OutOfMemory → Reached (ahead buffered before) after
  pub read : answer ≡ next.WriteFault → ⊥

-- the same, of each head that the spans are of
abbrev pub StartsBy : StartRead → List ℕ → List HeaderSpan → RequestSpans → Type 0
StartsBy start bytes headers spans = (h : RequestHead) → IsRequestAt bytes headers spans h → IsStart start h

-- the line was written where it is due, or the sink failed
abbrev pub IsAsked : Bool → Bool → Shown → Shown → Type 0
IsAsked due false before after = GivesAll before (interim due) after
IsAsked due true before after = (due ≡ true) × GivesFront before continue_line after

-- the bytes of a connection are read in one way only
abbrev pub HasOneNext : Type 0
HasOneNext = (bytes : List ℕ) (a b : Frame) → IsNext bytes a → IsNext bytes b → a ≡ b

abbrev pub HasOneReading : Type 0
HasOneReading = (bytes : List ℕ) (ms ns : List Sent) (e f : Ending) (d g : Bool) → Frames bytes ms e d → Frames bytes ns f g → (ms ≡ ns) × (e ≡ f) × (d ≡ g)
