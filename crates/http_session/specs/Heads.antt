-- The head of a message (RFC 9112, sections 2 to 5), and what may stand in its place.
use Rattle.std.specs.Prelude.{ℕ, ◌≡◌, ◌<◌, ◌≤◌, ◌++◌, ◌∷◌, List, [], length, take, true, false, ◌==◌, if◌then◌else◌, Option, Some, None}
use Rattle.std.specs.List.{list_all}
use Rattle.http_session.specs.Cuts.{is_line_byte, is_plain}
use Rattle.httparse.specs.Grammar.{RequestHead, print_request, ReadsRequest, HasNoRequest, NeverHasRequest}
use Rattle.http_session.specs.declared.message.Ending.{Ending}
use Rattle.http_session.specs.declared.message.Ending.TheVariants as ending

-- a head has at most so many bytes, with the empty lines before it
abbrev pub head_limit : ℕ
head_limit = 16384

-- The bytes end within the request target: after leading CR and LF they hold exactly one space and no CR or LF.
pub record InTarget (bytes : List ℕ) : Type 0 where
  pub lines : List ℕ
  pub method : List ℕ
  pub target : List ℕ
  pub only_lines : list_all is_line_byte lines ≡ true
  pub plain_method : list_all is_plain method ≡ true
  pub plain_target : list_all is_plain target ≡ true
  pub whole : bytes ≡ (lines ++ method) ++ 32 ∷ target

-- some prefix that does not end within the target has no continuation that begins with a head
abbrev pub IsBad : List ℕ → Type 0
IsBad bytes = (front : List ℕ) × (rest : List ℕ) × (bytes ≡ front ++ rest) × (¬ (InTarget front)) × NeverHasRequest front

-- they hold no head, and may still begin one
abbrev pub IsUndecided : List ℕ → Type 0
IsUndecided bytes = HasNoRequest bytes × ¬ (IsBad bytes)

-- the bytes hold no head within the limit, and end so
abbrev pub EndsWithoutHead : List ℕ → Ending → Type 0
EndsWithoutHead bytes ending.BadHead = IsBad (take head_limit bytes)
EndsWithoutHead bytes ending.TooLarge = IsUndecided (take head_limit bytes) × (head_limit ≤ length bytes)
EndsWithoutHead bytes ending.Cut = IsUndecided bytes × (length bytes < head_limit) × (list_all is_line_byte bytes ≡ false)
EndsWithoutHead bytes ending.End = IsUndecided bytes × (length bytes < head_limit) × (list_all is_line_byte bytes ≡ true)
EndsWithoutHead bytes ending.NoLength = ⊥
EndsWithoutHead bytes ending.Coding = ⊥

-- a head and the bytes after it, or how the bytes end without one
pub data HeadFound : Type 0 where
  head : RequestHead → List ℕ → HeadFound
  no_head : Ending → HeadFound

abbrev pub IsHead : List ℕ → HeadFound → Type 0
IsHead bytes (head h rest) = ReadsRequest bytes h rest × (length (print_request h) ≤ head_limit)
IsHead bytes (no_head e) = EndsWithoutHead bytes e

-- for the reader: where the space before the target stands, if the bytes end within the target
abbrev pub SplitsTarget : List ℕ → Option ℕ → Type 0
SplitsTarget bytes None = ¬ (InTarget bytes)
SplitsTarget bytes (Some k) = (t : InTarget bytes) × (k ≡ length (t.lines ++ t.method))

-- what stands behind a space in front
abbrev pub after_space : List ℕ → Option (List ℕ)
after_space [] = None
after_space (b ∷ bytes) = if b == 32 then Some bytes else None
