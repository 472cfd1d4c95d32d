-- The parts of a pattern before its first `Many`, put to the first characters of a text.
use Rattle.std.specs.Prelude.{ℕ, Bool, true, false, if◌then◌else◌, ◌==◌, List, [], ◌∷◌, Option, Some, None, chars, length, ◌+◌, ◌<◌, ⊤}
use Rattle.std.specs.Option.{option_and_then}
use Rattle.fes_filter.specs.declared.pattern.LikePart.{LikePart}
use Rattle.fes_filter.specs.declared.pattern.LikePart.TheVariants.{Exactly, One, Many}
use Rattle.fes_filter.specs.Like.{some_end, is_like}
use Rattle.fes_filter.specs.declared.like.Front.{Front}
use Rattle.fes_filter.specs.declared.like.Front.TheVariants.{Unlike, Whole, Rest}

abbrev pub is_many : LikePart → Bool
is_many Many = true
is_many part = false

-- what is left behind the one character that a part stands for
abbrev pub after_part : LikePart → List ℕ → Option (List ℕ)
after_part part [] = None
after_part (Exactly d) (c ∷ cs) = if c == d then Some cs else None
after_part One (c ∷ cs) = Some cs
after_part Many (c ∷ cs) = None

-- what is left of a pattern behind its first Many, and of the text there
abbrev pub Left : Type 0
Left = List LikePart × List ℕ

-- None: a part does not stand for its character, or one of the two is too short. Some None: all parts stand for the whole
-- text. Else what is left of both.
unfoldable pub front_of : List LikePart → List ℕ → Option (Option Left)
front_of [] [] = Some None
front_of [] (c ∷ cs) = None
front_of (Many ∷ parts) cs = Some (Some (parts, cs))
front_of (Exactly d ∷ parts) cs = option_and_then (front_of parts) (after_part (Exactly d) cs)
front_of (One ∷ parts) cs = option_and_then (front_of parts) (after_part One cs)

abbrev pub shown : Front → Option (Option Left)
shown Unlike = None
shown Whole = Some None
shown (Rest parts text) = Some (Some (parts.now, chars text.now))

-- whether an end of what is left is like the parts that are left
abbrev pub by_front : Option (Option Left) → Bool
by_front None = false
by_front (Some None) = true
by_front (Some (Some left)) = some_end (is_like left.0) left.1

-- both together are shorter than that
abbrev pub IsShorter : ℕ → Front → Type 0
IsShorter n Unlike = ⊤
IsShorter n Whole = ⊤
IsShorter n (Rest parts text) = length parts.now + length text.now < n
