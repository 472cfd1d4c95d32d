-- Values that are lists, with commas between their items (OGC 06-121r9, section 11.5.3).
use Rattle.std.specs.Prelude.{ℕ, Bool, ◌==◌, List, [], Option, Some, None}
use Rattle.std.specs.List.{slice_split}

abbrev pub is_comma : ℕ → Bool
is_comma b = b == 44

-- the items of a list
abbrev pub items_in : List ℕ → List (List ℕ)
items_in text = slice_split is_comma text

-- the items of a list, where there is one
abbrev pub items_if : Option (List ℕ) → List (List ℕ)
items_if None = []
items_if (Some text) = items_in text
