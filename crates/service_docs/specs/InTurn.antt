-- Lists gone through with a look back.
use Rattle.std.specs.Prelude.{List, [], ◌∷◌, ◌++◌}

-- what each element of the second list adds, by all that stand before it, those of the first list too
abbrev pub in_turn : {X Y : Type 0} → (List X → X → List Y) → List X → List X → List Y
in_turn adds before [] = []
in_turn adds before (x ∷ xs) = adds before x ++ in_turn adds (before ++ x ∷ []) xs
