-- Where the reader of chunks is: for the reader.
use Rattle.std.specs.Prelude.{ℕ, ◌≡◌, ◌+◌, ◌<◌, ◌≤◌, ◌==◌, List, [], ◌∷◌, ◌++◌, length, take, drop, nat_lt, if◌then◌else◌, Bool, true, false, Option, Some, None, option_map, IfSome}
use Rattle.wfs_ends.specs.Ends.{Shown}
use Rattle.http_session.specs.declared.message.Ending.{Ending}
use Rattle.http_session.specs.declared.message.Ending.TheVariants as ending
use Rattle.http_session.specs.declared.spot.Byte.{Byte}
use Rattle.http_session.specs.declared.spot.Byte.TheVariants as byte
use Rattle.http_session.specs.declared.chunks.Begun.{Begun}
use Rattle.http_session.specs.declared.chunks.Begun.TheVariants as begun
use Rattle.http_session.specs.declared.chunks.LineRead.{LineRead}
use Rattle.http_session.specs.declared.chunks.LineRead.TheVariants as lineread
use Rattle.http_session.specs.declared.chunks.ChunkRead.{ChunkRead}
use Rattle.http_session.specs.declared.chunks.ChunkRead.TheVariants as chunkread
use Rattle.http_session.specs.Chunks.{Line, line, no_line, part_line, Stop, whole, wrong, large, part, Turn, goes, stops, chunk_of}
use Rattle.http_session.specs.Reading.{after_buffer, ahead, Reached, IsFault}

-- how many bytes may still be used, and the bytes that are still to be read, where the link tells
pub record Spot : Type 0 where
  pub allowed : ℕ
  pub ahead : Option (List ℕ)

abbrev pub spot : ℕ → List ℕ → Shown → Spot
spot allowed buffered shown = record { allowed = allowed; ahead = ahead buffered shown }

-- the bytes that may still be used
abbrev pub window : Spot → Option (List ℕ)
window s = option_map (take s.allowed) s.ahead

-- from one spot to a later one
pub record Moves (a b : Spot) : Type 0 where
  pub front : List ℕ
  pub bytes : a.ahead ≡ after_buffer front b.ahead
  pub count : a.allowed ≡ length front + b.allowed

-- what is not whole when the window ends
abbrev pub part_ending : ℕ → List ℕ → Ending
part_ending allowed bytes = if nat_lt allowed (length bytes) then ending.TooLarge else ending.Cut

-- what an end of the chunks is answered with
abbrev pub stop_ending : Stop → ℕ → List ℕ → Ending
stop_ending (whole found rest) allowed bytes = ending.End
stop_ending wrong allowed bytes = ending.BadHead
stop_ending large allowed bytes = ending.TooLarge
stop_ending part allowed bytes = part_ending allowed bytes

-- the window has ended
abbrev pub IsOver : Spot → Ending → Type 0
IsOver a e = IfSome a.ahead (λ bytes. (take a.allowed bytes ≡ []) × (e ≡ part_ending a.allowed bytes))

abbrev pub IsByte : Byte → Shown → Spot → Shown → Spot → Type 0
IsByte (byte.Next b) before a after c = (window a ≡ after_buffer (b ∷ []) (window c)) × (m : Moves a c) × (m.front ≡ b ∷ []) × (a.allowed ≡ c.allowed + 1)
IsByte (byte.Ended e) before a after c = IsOver a e
IsByte byte.Fault before a after c = (q : IsFault a.ahead before after) × (q.reached.taken ≡ [])

-- some bytes were used, and f of them and of any bytes behind them is g of those
pub record Passes {X : Type 0} (f g : List ℕ → X) (a b : Spot) : Type 0 where
  pub moves : Moves a b
  pub same : (more : List ℕ) → f (moves.front ++ more) ≡ g more

-- the link failed, where f of the bytes that were taken, and allowed, is x
pub record FaultAt {X : Type 0} (f : List ℕ → X) (x : X) (a : Spot) (before after : Shown) : Type 0 where
  pub fault : IsFault a.ahead before after
  pub within : length fault.reached.taken ≤ a.allowed
  pub is : f fault.reached.taken ≡ x

-- f at one window is g at another
abbrev pub Alike : {X : Type 0} → (List ℕ → X) → Option (List ℕ) → (List ℕ → X) → Option (List ℕ) → Type 0
Alike f v g w = option_map f v ≡ option_map g w

abbrev pub IsLineRead : (List ℕ → Line) → LineRead → Shown → Spot → Shown → Spot → Type 0
IsLineRead f (lineread.Line size) before a after c = Passes f (line size) a c
IsLineRead f lineread.Bad before a after c = IfSome (window a) (λ w. f w ≡ no_line)
IsLineRead f (lineread.Ended e) before a after c = IfSome a.ahead (λ bytes. (f (take a.allowed bytes) ≡ part_line) × (e ≡ part_ending a.allowed bytes))
IsLineRead f lineread.Fault before a after c = FaultAt f part_line a before after

-- an end that leaves no content
abbrev pub IsBroken : Stop → Type 0
IsBroken (whole found rest) = ⊥
IsBroken wrong = Unit {0}
IsBroken large = Unit {0}
IsBroken part = Unit {0}

-- what was read is what f makes of the window: a chunk, with the content by then, or an end
abbrev pub IsTurn : (List ℕ → Turn) → ChunkRead → List ℕ → Shown → Spot → Shown → Spot → Type 0
IsTurn f chunkread.More found before a after c = Passes f (goes found) a c × (c.allowed < a.allowed)
IsTurn f chunkread.Whole found before a after c = Passes f (λ w. stops (whole found w)) a c
IsTurn f (chunkread.Ended e) found before a after c =
    IfSome a.ahead (λ bytes. (stop : Stop) × (f (take a.allowed bytes) ≡ stops stop) × (e ≡ stop_ending stop a.allowed bytes) × IsBroken stop)
IsTurn f chunkread.Fault found before a after c = FaultAt f (stops part) a before after
IsTurn f chunkread.OutOfMemory found before a after c = Reached a.ahead after

-- what has come of a trailer line: nothing, a CR alone, or text
abbrev pub begun_more : Begun → ℕ → Begun
begun_more begun.Nothing b = if b == 13 then begun.Return else begun.Text
begun_more begun.Return b = begun.Text
begun_more begun.Text b = begun.Text

abbrev pub is_empty_line : Begun → Bool
is_empty_line begun.Nothing = true
is_empty_line begun.Return = true
is_empty_line begun.Text = false

-- trailer lines are passed over up to the first that is empty
unfoldable pub after_trailer : List ℕ → Begun → List ℕ → Stop
after_trailer content so_far [] = part
after_trailer content so_far (b ∷ bytes) =
    if b == 10 then if is_empty_line so_far then whole content bytes else after_trailer content begun.Nothing bytes
    else after_trailer content (begun_more so_far b) bytes

-- the chunk line, and what it begins; a size of 0 begins the trailer
abbrev pub turn_of : List ℕ → Line → Turn
turn_of content (line size rest) = if size == 0 then stops (after_trailer content begun.Nothing rest) else chunk_of content size rest
turn_of content no_line = stops wrong
turn_of content part_line = stops part

-- one more byte of a trailer line, or the end of the trailer
abbrev pub trailer_step : Begun → ℕ → Option Begun
trailer_step so_far b =
    if b == 10 then if is_empty_line so_far then None else Some begun.Nothing
    else Some (begun_more so_far b)

-- some bytes of a chunk were copied, of which so many were left
pub record IsCopied (content buffered : List ℕ) (allowed left : ℕ) (content' buffered' : List ℕ) (allowed' left' : ℕ) : Type 0 where
  pub count : ℕ
  pub some : 0 < count
  pub held : count ≤ length buffered
  pub within : length content + count ≤ 4194304
  pub content_is : content' ≡ content ++ take count buffered
  pub buffered_is : buffered' ≡ drop count buffered
  pub allowed_is : allowed ≡ count + allowed'
  pub left_is : left ≡ count + left'
