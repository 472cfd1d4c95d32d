-- When a text is like a pattern (OGC 09-026r2, section 7.7: PropertyIsLike). Texts are lists of characters.
use Rattle.std.specs.Prelude.{ℕ, Bool, true, false, ◌&&◌, ◌||◌, ◌==◌, List, [], ◌∷◌}
use Rattle.fes_filter.specs.declared.pattern.LikePart.{LikePart}
use Rattle.fes_filter.specs.declared.pattern.LikePart.TheVariants.{Exactly, One, Many}

-- A test holds of a text, or of what is left of it without some of its first characters.
unfoldable pub some_end : (List ℕ → Bool) → List ℕ → Bool
some_end test [] = test []
some_end test (c ∷ cs) = test (c ∷ cs) || some_end test cs

-- A pattern without parts is like the empty text. `Exactly` stands for its one character, `One` for any one character,
-- and `Many` for any number of any characters, also for none: the rest of the pattern is like the rest of the text.
unfoldable pub is_like : List LikePart → List ℕ → Bool
is_like [] [] = true
is_like [] (c ∷ cs) = false
is_like (Exactly d ∷ parts) [] = false
is_like (Exactly d ∷ parts) (c ∷ cs) = (c == d) && is_like parts cs
is_like (One ∷ parts) [] = false
is_like (One ∷ parts) (c ∷ cs) = is_like parts cs
is_like (Many ∷ parts) cs = some_end (is_like parts) cs
