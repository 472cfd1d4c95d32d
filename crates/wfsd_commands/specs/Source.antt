-- What is read of a source.
use Rattle.std.specs.Prelude.{◌≡◌, ℕ, ◌<◌, ◌≤◌, List, [], ◌++◌, length, take, Option, Some, None, IfSome}
use Rattle.wfs_ends.specs.Ends.{Shown, KeepsGiven, Rose}
use Rattle.wfsd_commands.specs.declared.source.SourceRead.{SourceRead}
use Rattle.wfsd_commands.specs.declared.source.SourceRead.TheVariants as read
use Rattle.wfsd_commands.specs.declared.source.Filled.{Filled}
use Rattle.wfsd_commands.specs.declared.source.Filled.TheVariants as filled

-- these bytes and then what is left, where that is told
abbrev pub behind : List ℕ → Option (List ℕ) → Option (List ℕ)
behind bytes None = None
behind bytes (Some left) = Some (bytes ++ left)

-- these bytes were taken
pub record Takes (old : Shown) (bytes : List ℕ) (new : Shown) : Type 0 where
  pub left : old.left ≡ behind bytes new.left
  pub keeps : KeepsGiven old new

-- nothing is left, where that is told
abbrev pub IsAtEnd : Shown → Type 0
IsAtEnd shown = IfSome shown.left (λ left. left ≡ [])

-- what filling some bytes comes to
abbrev pub IsFilled : List ℕ → Shown → Filled → Shown → Type 0
IsFilled bytes old filled.Whole new = Takes old bytes new
IsFilled bytes old (filled.Ended count) new = (count < length bytes) × Takes old (take count bytes) new × IsAtEnd new
IsFilled bytes old filled.Fault new = Rose old.failed_takes new.failed_takes

-- the whole source was read, or it has more bytes than it may have, or it failed
abbrev pub IsSourceRead : ℕ → Shown → SourceRead → Shown → Type 0
IsSourceRead most old (read.Whole bytes) new = IfSome old.left (λ left. left ≡ bytes.items) × (length bytes.items ≤ most)
IsSourceRead most old read.TooLong new = IfSome old.left (λ left. most < length left)
IsSourceRead most old read.Fault new = Rose old.failed_takes new.failed_takes
