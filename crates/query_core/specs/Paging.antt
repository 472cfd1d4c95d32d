-- Pages of a list (OGC 09-025r2, section 7.6.3: startIndex and count).
use Rattle.std.specs.Prelude.{ℕ, List, take, drop, Option, Some, None}

-- the list without its first members, and cut to so many where a count is given
unfoldable pub page_of : {X : Type 0} → ℕ → Option ℕ → List X → List X
page_of start None xs = drop start xs
page_of start (Some count) xs = take count (drop start xs)
