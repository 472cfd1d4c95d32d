-- Where a head may end: for the reader. The line of a head that is empty ends it, and stands behind one that is not.
use Rattle.std.specs.Prelude.{◌≡◌, ℕ, ◌≤◌, List, ◌∷◌, ◌++◌, length, take, Bool, true, false, not, ◌==◌, ◌&&◌, ◌||◌, if◌then◌else◌}
use Rattle.std.specs.List.{fold}
use Rattle.httparse.specs.Grammar.{HasNoRequest}
use Rattle.http_session.specs.declared.watch.Lines.{Lines}
use Rattle.http_session.specs.declared.watch.Watch.{Watch}

-- before the first byte
abbrev pub no_lines : Lines
no_lines = record { has_begun = false; has_line = false; is_empty = true }

-- the lines with one more byte
abbrev pub with_byte : Lines → ℕ → Lines
with_byte lines b =
    if b == 10 then record { has_begun = lines.has_begun; has_line = lines.has_begun; is_empty = true } else
    (if b == 13 then lines else record { has_begun = true; has_line = lines.has_line; is_empty = false })

-- the byte ends the first line that is not empty, or an empty one behind it
abbrev pub may_end : Lines → ℕ → Bool
may_end lines b = b == 10 && (lines.has_begun && (lines.is_empty || not lines.has_line))

-- the lines of some bytes
abbrev pub lines_of : List ℕ → Lines
lines_of bytes = fold with_byte no_lines bytes

-- no head can end at one of the bytes from this place on
abbrev pub HasNoEnd : ℕ → List ℕ → Type 0
HasNoEnd start bytes = (front : List ℕ) (b : ℕ) (rest : List ℕ) → bytes ≡ front ++ b ∷ rest → start ≤ length front → may_end (lines_of front) b ≡ false

-- the first bytes were looked at, and these are their lines
pub record HasSeen (watch : Watch) (bytes : List ℕ) : Type 0 where
  pub within : watch.seen ≤ length bytes
  pub lines : watch.lines ≡ lines_of (take watch.seen bytes)

-- some of the bytes were judged, and no head is among these; no more than these were looked at
pub record HasJudged (watch : Watch) (bytes : List ℕ) : Type 0 where
  pub judged : List ℕ
  pub rest : List ℕ
  pub whole : bytes ≡ judged ++ rest
  pub none : HasNoRequest judged
  pub within : watch.seen ≤ length judged
  pub lines : watch.lines ≡ lines_of (take watch.seen bytes)
