-- A body in chunks (RFC 9112, section 7.1).
use Rattle.std.specs.Prelude.{ℕ, zero, suc, ◌≡◌, ◌+◌, List, [], ◌∷◌, ◌++◌, length, take, drop, ◌==◌, nat_lt, if◌then◌else◌}
use Rattle.httparse.specs.Grammar.{ChunkLine, chunk_size, ReadsChunkLine, HasNoChunkLine, NeverHasChunkLine}
use Rattle.http_session.specs.Fields.{body_limit}
use Rattle.http_session.specs.Trailers.{ReadsTrailer, HasNoTrailer}

-- a body in chunks has at most so many bytes as sent, with all its lines
abbrev pub sent_limit : ℕ
sent_limit = 8388608

-- What bytes begin with: a chunk line of this size and then the rest; what can be no chunk line; or a part of one.
pub data Line : Type 0 where
  line : ℕ → List ℕ → Line
  no_line : Line
  part_line : Line

abbrev pub IsLine : List ℕ → Line → Type 0
IsLine bytes (line size rest) = (l : ChunkLine) × ReadsChunkLine bytes l rest × (size ≡ chunk_size l)
IsLine bytes no_line = NeverHasChunkLine bytes
IsLine bytes part_line = HasNoChunkLine bytes × ¬ (NeverHasChunkLine bytes)

-- How the chunks end: after the trailer, with the content and the rest; by bytes that are no chunks; by more content
-- than the limit; or before that.
pub data Stop : Type 0 where
  whole : List ℕ → List ℕ → Stop
  wrong : Stop
  large : Stop
  part : Stop

-- a chunk was read, with the content by then and the rest, or the chunks end
pub data Turn : Type 0 where
  goes : List ℕ → List ℕ → Turn
  stops : Stop → Turn

-- behind the last chunk: the content, and what follows the trailer; or a part of a trailer
abbrev pub IsAfterTrailer : List ℕ → List ℕ → Stop → Type 0
IsAfterTrailer content bytes (whole found rest) = (found ≡ content) × ReadsTrailer bytes rest
IsAfterTrailer content bytes part = HasNoTrailer bytes
IsAfterTrailer content bytes wrong = ⊥
IsAfterTrailer content bytes large = ⊥

-- a chunk ends in CR LF
abbrev pub after_return : List ℕ → List ℕ → Turn
after_return content [] = stops part
after_return content (b ∷ bytes) = if b == 10 then goes content bytes else stops wrong

unfoldable pub after_data : List ℕ → List ℕ → Turn
after_data content [] = stops part
after_data content (b ∷ bytes) = if b == 13 then after_return content bytes else stops wrong

-- the chunk of this size
unfoldable pub chunk_of : List ℕ → ℕ → List ℕ → Turn
chunk_of content size bytes =
    if nat_lt body_limit (length content + length (take size bytes)) then stops large
    else if nat_lt (length bytes) size then stops part
    else after_data (content ++ take size bytes) (drop size bytes)

-- what a chunk line begins: a chunk of its size, or the trailer where that is 0
abbrev pub IsTurnOf : List ℕ → Line → Turn → Type 0
IsTurnOf content (line zero rest) turn = (stop : Stop) × (turn ≡ stops stop) × IsAfterTrailer content rest stop
IsTurnOf content (line (suc n) rest) turn = turn ≡ chunk_of content (suc n) rest
IsTurnOf content no_line turn = turn ≡ stops wrong
IsTurnOf content part_line turn = turn ≡ stops part

-- after n further chunks the bytes end so
abbrev pub ReadsChunks : ℕ → List ℕ → List ℕ → Stop → Type 0
ReadsChunks zero content bytes stop = (l : Line) × IsLine bytes l × IsTurnOf content l (stops stop)
ReadsChunks (suc n) content bytes stop =
    (l : Line) × IsLine bytes l × (more : List ℕ) × (rest : List ℕ) × IsTurnOf content l (goes more rest) × ReadsChunks n more rest stop
