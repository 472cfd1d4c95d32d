-- The coordinates that a text writes, two for each position (OGC 07-036, 10.1.4.1 and 10.1.4.2). The service's positions
-- are whole numbers, so a fraction is one of zeros.
use Rattle.std.specs.Prelude.{ℕ, ℤ, pos, negsuc, neg_ℤ, Bool, true, ◌&&◌, ◌||◌, if◌then◌else◌, ◌==◌, nat_lt, min, List, [], ◌∷◌, ◌++◌, length, take, drop, Option, Some, None, option_map, Result, Ok, Err}
use Rattle.std.specs.List.{filter, list_all, prefix_len, slice_split}
use Rattle.std.specs.Char.{is_ascii_digit}
use Rattle.std.specs.Str.Parse.{digits_value}
use Rattle.wfs_ends.specs.Read.{◌>>=◌, each}
use Rattle.geom_core.specs.Plane.{Point}
use Rattle.geom_core.specs.Shapes.{position_of}
use Rattle.geom_core.specs.declared.fault.GeomFault.{GeomFault}
use Rattle.gml_docs.specs.declared.fault.GmlFault.{GmlFault}
use Rattle.gml_docs.specs.declared.fault.GmlFault.TheVariants.{Number, Shape}

-- white space: a space, a tab or a line feed. A carriage return is none, since a reader of documents makes line feeds of
-- those that are not written as references.
unfoldable pub is_space : ℕ → Bool
is_space b = (b == 32) || (b == 9) || (b == 10)

-- the words of a text: what stands between white space
unfoldable pub words : List ℕ → List (List ℕ)
words text = filter (λ word. nat_lt 0 (length word)) (slice_split is_space text)

-- ---- one coordinate

-- how many digits stand first
abbrev pub digit_count : List ℕ → ℕ
digit_count text = prefix_len is_ascii_digit text

-- no fraction, or a dot and one or more zeros
unfoldable pub is_fraction : List ℕ → Bool
is_fraction [] = true
is_fraction (c ∷ cs) = (c == 46) && nat_lt 0 (length cs) && list_all (λ d. d == 48) cs

-- one or more digits, and a fraction
unfoldable pub is_unsigned : List ℕ → Bool
is_unsigned text = nat_lt 0 (digit_count text) && is_fraction (drop (digit_count text) text)

-- the number that they write
unfoldable pub unsigned_of : List ℕ → Option ℕ
unsigned_of text = if is_unsigned text then Some (digits_value 10 (take (digit_count text) text)) else None

-- a coordinate: a sign, which may be left out, and such a number, of any size
unfoldable pub coordinate_of : List ℕ → Option ℤ
coordinate_of [] = None
coordinate_of (c ∷ cs) =
    if c == 45 then option_map (λ n. neg_ℤ (pos n)) (unsigned_of cs) else
    (if c == 43 then option_map pos (unsigned_of cs) else option_map pos (unsigned_of (c ∷ cs)))

abbrev pub or_number : Option ℤ → Result ℤ GmlFault
or_number None = Err Number
or_number (Some z) = Ok z

-- ---- positions

-- the point at the coordinates that two words write, near or far
unfoldable pub point_of : List ℕ → List ℕ → Result Point GmlFault
point_of a b = do
  x ← or_number (coordinate_of a)
  y ← or_number (coordinate_of b)
  Ok (record { x = x; y = y })

-- the points of words, two words for each
unfoldable pub points_of : List (List ℕ) → Result (List Point) GmlFault
points_of [] = Ok []
points_of (a ∷ []) = Err Number
points_of (a ∷ b ∷ rest) = do
  p ← point_of a b
  ps ← points_of rest
  Ok (p ∷ ps)

-- what a shape is, or what is wrong with it
abbrev pub shaped : {A : Type 0} → Result A GeomFault → Result A GmlFault
shaped (Ok shape) = Ok shape
shaped (Err fault) = Err (Shape fault)

-- the position at the coordinates that two words write, if they write any
unfoldable pub located : List ℕ → List ℕ → Result (Result Point GeomFault) GmlFault
located a b = point_of a b >>= λ p. Ok (position_of p.x p.y)

-- positions with one more behind them, or the first of them that is out of range
abbrev pub behind : Result (List Point) GeomFault → Result Point GeomFault → Result (List Point) GeomFault
behind found position = found >>= λ ps. position >>= λ p. Ok (ps ++ p ∷ [])

-- the positions so far, with one more, which lies within range
unfoldable pub placed : List Point → Point → Result (List Point) GmlFault
placed found p = shaped (position_of p.x p.y) >>= λ q. Ok (found ++ q ∷ [])

-- the positions of a text: its numbers are judged first, and then where they lie
unfoldable pub positions_of : List ℕ → Result (List Point) GmlFault
positions_of text = points_of (words text) >>= each placed []

-- the position of two words, which lies within range
unfoldable pub position_of_words : List ℕ → List ℕ → Result Point GmlFault
position_of_words a b = located a b >>= shaped

abbrev pub only_located : List (List ℕ) → Result (Result Point GeomFault) GmlFault
only_located (a ∷ b ∷ []) = located a b
only_located other = Err Number

-- the one position of a text
unfoldable pub position_in : List ℕ → Result Point GmlFault
position_in text = only_located (words text) >>= shaped

-- ---- numbers that are too large

-- a number, or else the nearest that lies beyond 1,000,000,000 in magnitude by one: both are out of range
abbrev pub near_natural : ℕ → ℕ
near_natural n = min n 1_000_000_001

abbrev pub near : ℤ → ℤ
near (pos n) = pos (near_natural n)
near (negsuc n) = negsuc (min n 1_000_000_000)
