-- Where in a text the parts of a pattern up to its next `Many` can stand.
use Rattle.std.specs.Prelude.{◌≡◌, ℕ, ◌<◌, ◌≤◌, ◌++◌, false, List, [], ◌∷◌, length, chars, encode_utf8_all, slice_index_or}
use Rattle.fes_filter.specs.declared.pattern.LikePart.{LikePart}
use Rattle.fes_filter.specs.declared.pattern.LikePart.TheVariants.{Exactly, One}
use Rattle.fes_filter.specs.Like.{some_end, is_like}
use Rattle.fes_filter.specs.LikeFront.{is_many}

-- the characters that the parts begin with
abbrev pub letters : List LikePart → List ℕ
letters (Exactly c ∷ parts) = c ∷ letters parts
letters parts = []

-- the bytes are those that the characters begin with
abbrev pub IsBeginOf : List ℕ → List ℕ → Type 0
IsBeginOf bytes cs = (more : List ℕ) × (encode_utf8_all cs ≡ bytes ++ more)

-- none of the first n parts is a Many
abbrev pub NoManyBefore : List LikePart → ℕ → Type 0
NoManyBefore parts n = (k : ℕ) → k < n → is_many (slice_index_or parts k One) ≡ false

-- An end of what is left is like the parts exactly where one of the text is.
pub record IsLeft (parts : List LikePart) (text rest : List ℕ) : Type 0 where
  pub same : some_end (is_like parts) (chars rest) ≡ some_end (is_like parts) (chars text)
  pub shorter : length rest ≤ length text
