-- What each step of the reader does to the bytes that are still to be read.
use Rattle.std.specs.Prelude.{ℕ, ◌+◌, take, ◌≡◌, ◌<◌, List, [], ◌++◌, length, Option, Some, None, IfSome}
use Rattle.wfs_ends.specs.Ends.{Shown, KeepsGiven, Rose}
use Rattle.httparse.specs.declared.spans.HeaderSpan.{HeaderSpan}
use Rattle.httparse.specs.declared.spans.RequestSpans.{RequestSpans}
use Rattle.httparse.specs.Grammar.{RequestHead, NeverHasRequest, HasNoRequest, MayBecomeRequest}
use Rattle.httparse.specs.Spans.{IsRequestAt, IsRequestWithin}
use Rattle.http_session.specs.declared.message.Ending.TheVariants as ending
use Rattle.http_session.specs.declared.head.HeadRead.{HeadRead}
use Rattle.http_session.specs.declared.head.HeadRead.TheVariants as read
use Rattle.http_session.specs.declared.head.Judged.{Judged}
use Rattle.http_session.specs.declared.head.Judged.TheVariants as judged
use Rattle.http_session.specs.declared.head.Step.{Step}
use Rattle.http_session.specs.declared.head.Step.TheVariants as step
use Rattle.http_session.specs.Heads.{head_limit, IsBad, IsUndecided, EndsWithoutHead}
use Rattle.http_session.specs.Frames.{content, no_content, IsBody}
use Rattle.http_session.specs.declared.body.Full.{Full}
use Rattle.http_session.specs.declared.body.Full.TheVariants as full
use Rattle.http_session.specs.declared.body.BodyRead.{BodyRead}
use Rattle.http_session.specs.declared.body.BodyRead.TheVariants as bodyread
use Rattle.http_session.specs.declared.plan.Body.{Body}
use Rattle.http_session.specs.declared.buffer.Filled.{Filled}
use Rattle.http_session.specs.declared.buffer.Filled.TheVariants as filled

-- the bytes that are still to be read: those in the buffer, and those that the link has left, where it tells
abbrev pub after_buffer : List ℕ → Option (List ℕ) → Option (List ℕ)
after_buffer buffered None = None
after_buffer buffered (Some left) = Some (buffered ++ left)

abbrev pub ahead : List ℕ → Shown → Option (List ℕ)
ahead buffered shown = after_buffer buffered shown.left

-- all bytes that were taken by then: they stand in front of those that the link has left
pub record Reached (ahead : Option (List ℕ)) (after : Shown) : Type 0 where
  pub taken : List ℕ
  pub parts : ahead ≡ after_buffer taken after.left

-- the link failed to give more
pub record IsFault (ahead : Option (List ℕ)) (before after : Shown) : Type 0 where
  pub reached : Reached ahead after
  pub cause : Rose before.failed_takes after.failed_takes

-- no take failed in between
abbrev pub IsCalm : Shown → Shown → Type 0
IsCalm before after = after.failed_takes ≡ before.failed_takes

-- bytes may have moved from the link into the buffer, and nothing else changed
pub record Moved (old : List ℕ) (before : Shown) (new : List ℕ) (after : Shown) : Type 0 where
  pub same : ahead new after ≡ ahead old before
  pub keeps : KeepsGiven before after

-- more bytes came; or nothing is left, at the end of the input; or the link failed
abbrev pub IsFilled : Filled → List ℕ → Shown → List ℕ → Shown → Type 0
IsFilled filled.More old before new after = (more : List ℕ) × (new ≡ old ++ more) × (0 < length more)
IsFilled filled.End old before new after = (new ≡ old) × IfSome after.left (λ left. left ≡ [])
IsFilled filled.Fault old before new after = (new ≡ old) × Rose before.failed_takes after.failed_takes

-- the spans are those of a head that the bytes begin with
pub record HeadAt (bytes : List ℕ) (headers : List HeaderSpan) (spans : RequestSpans) : Type 0 where
  pub head : RequestHead
  pub at : IsRequestAt bytes headers spans head
  pub within : IsRequestWithin bytes headers spans

-- what httparse makes of the bytes so far: a head, the beginning of one, or neither, whatever follows
abbrev pub IsStep : List ℕ → List HeaderSpan → Step → Type 0
IsStep bytes headers (step.Head spans) = HeadAt bytes headers spans
IsStep bytes headers step.More = HasNoRequest bytes × MayBecomeRequest bytes
IsStep bytes headers step.Never = NeverHasRequest bytes

abbrev pub IsJudged : List ℕ → List HeaderSpan → Judged → Type 0
IsJudged bytes headers (judged.Head spans) = HeadAt bytes headers spans
IsJudged bytes headers judged.More = IsUndecided bytes
IsJudged bytes headers judged.Bad = IsBad bytes

-- what the reader of heads answers of the bytes that are still to be read
abbrev pub IsHeadRead : HeadRead → List ℕ → List HeaderSpan → Shown → Shown → Type 0
IsHeadRead (read.Head spans) buffered headers before after = HeadAt buffered headers spans
IsHeadRead (read.Ended e) buffered headers before after = IfSome (ahead buffered after) (λ bytes. EndsWithoutHead bytes e)
IsHeadRead read.Fault buffered headers before after = HasNoRequest buffered × (length buffered < head_limit) × Rose before.failed_takes after.failed_takes

-- bytes that no head ends in are not judged
abbrev pub IsEarly : List ℕ → List HeaderSpan → Judged → Type 0
IsEarly bytes headers (judged.Head spans) = HeadAt bytes headers spans
IsEarly bytes headers judged.More = HasNoRequest bytes
IsEarly bytes headers judged.Bad = IsBad bytes

-- at the end of the input, and at the limit
abbrev pub IsHeadEnd : HeadRead → List ℕ → List HeaderSpan → Type 0
IsHeadEnd (read.Head spans) bytes headers = HeadAt bytes headers spans
IsHeadEnd (read.Ended e) bytes headers = EndsWithoutHead bytes e
IsHeadEnd read.Fault bytes headers = ⊥

abbrev pub IsHeadFull : HeadRead → List ℕ → List HeaderSpan → Type 0
IsHeadFull (read.Head spans) bytes headers = HeadAt bytes headers spans
IsHeadFull (read.Ended e) bytes headers = (more : List ℕ) → EndsWithoutHead (bytes ++ more) e
IsHeadFull read.Fault bytes headers = ⊥

-- a body was filled, or the input was too short for it
abbrev pub IsFull : Full → List ℕ → List ℕ → Shown → List ℕ → Shown → Type 0
IsFull full.Whole body old before new after = ahead old before ≡ after_buffer body (ahead new after)
IsFull full.End body old before new after = IfSome (ahead old before) (λ bytes. length bytes < length body)
IsFull full.Fault body old before new after = (q : IsFault (ahead old before) before after) × (length q.reached.taken < length body)

abbrev pub IsBodyRead : Body → BodyRead → List ℕ → Shown → List ℕ → Shown → Type 0
IsBodyRead how (bodyread.Content found) old before new after =
    IfSome (ahead old before) (λ bytes. (rest : List ℕ) × (ahead new after ≡ Some rest) × IsBody how bytes (content found.items rest))
IsBodyRead how (bodyread.Ended e) old before new after = IfSome (ahead old before) (λ bytes. IsBody how bytes (no_content e))
IsBodyRead how bodyread.Fault old before new after = (q : IsFault (ahead old before) before after) × IsBody how q.reached.taken (no_content ending.Cut)
IsBodyRead how bodyread.OutOfMemory old before new after = Reached (ahead old before) after

-- the rest of a body, behind its first bytes
abbrev pub IsRest : Full → ℕ → List ℕ → Shown → List ℕ → Shown → Type 0
IsRest full.Whole start old before new after = after_buffer (take start old) before.left ≡ after_buffer new after.left
IsRest full.End start old before new after = IfSome before.left (λ left. start + length left < length old)
IsRest full.Fault start old before new after = (q : IsFault (after_buffer (take start old) before.left) before after) × (length q.reached.taken < length old)

-- a byte is in the buffer, or none is left
abbrev pub IsHeld : Filled → List ℕ → Shown → Shown → Type 0
IsHeld filled.More new before after = 0 < length new
IsHeld filled.End new before after = IfSome (ahead new after) (λ bytes. bytes ≡ [])
IsHeld filled.Fault new before after = (new ≡ []) × Rose before.failed_takes after.failed_takes
