-- Names among listed ones.
use Rattle.std.proofs.Common.{◌≡◌, ℕ, List, [], ◌∷◌, map, refl}
use Rattle.std.specs.List.{list_any}
use Rattle.std.specs.Str.{bytes_eq}
use Rattle.std.specs.Borrow.{Bor}

pub list_any_now : (name : List ℕ) (names : List (Bor (List ℕ))) → list_any (λ n. bytes_eq n.now name) names ≡ list_any (λ n. bytes_eq n name) (map (λ n. n.now) names)
list_any_now name [] = refl
list_any_now name (n ∷ names) = rw (list_any_now name names) refl
