-- A search from the front, one element after the other.
use Rattle.std.proofs.Common.{◌≡◌, ℕ, ◌+◌, ◌<◌, ◌≤◌, Bool, true, false, List, length, get_or, drop, Some, None, refl, sym, ◌∙◌}
use Rattle.std.specs.List.{find}
use Rattle.std.proofs.lemmas.List.{at_drop_more, at_drop_all}

pub goes_on : {X : Type 0} (p : X → Bool) (xs : List X) (i : ℕ) (d : X) → i < length xs → p (get_or xs i d) ≡ false → find p (drop (i + 1) xs) ≡ find p (drop i xs)
goes_on p xs i d lt off = sym (at_drop_more (find p) xs i d lt ∙ rw off refl)

pub stops : {X : Type 0} (p : X → Bool) (xs : List X) (i : ℕ) (d : X) → i < length xs → p (get_or xs i d) ≡ true → find p (drop i xs) ≡ Some (get_or xs i d)
stops p xs i d lt on = at_drop_more (find p) xs i d lt ∙ rw on refl

pub none_left : {X : Type 0} (p : X → Bool) (xs : List X) (i : ℕ) → length xs ≤ i → find p (drop i xs) ≡ None
none_left p xs i le = at_drop_all (find p) xs i le
