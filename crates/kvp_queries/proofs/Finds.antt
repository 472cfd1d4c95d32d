-- One turn of a search through a list.
use Rattle.std.proofs.Common.{◌≡◌, Bool, ℕ, ◌+◌, ◌<◌, ◌≤◌, cond, List, ◌∷◌, length, get_or, drop, map, find, Some, None}
use Rattle.std.proofs.lemmas.List.{at_drop_more, at_drop_all}
use Rattle.kvp_queries.specs.Pairs.{Pair, value_of}

pub find_turn : {X Y : Type 0} (p : Y → Bool) (f : X → Y) (xs : List X) (i : ℕ) (d : X) → i < length xs → find p (map f (drop i xs)) ≡ cond (p (f (get_or xs i d))) (Some (f (get_or xs i d))) (find p (map f (drop (i + 1) xs)))
find_turn p f xs i d lt = at_drop_more (λ ys. find p (map f ys)) xs i d lt

pub find_end : {X Y : Type 0} (p : Y → Bool) (f : X → Y) (xs : List X) (i : ℕ) → length xs ≤ i → find p (map f (drop i xs)) ≡ None
find_end p f xs i le = at_drop_all (λ ys. find p (map f ys)) xs i le

pub value_turn : (name : List ℕ) (given : List Pair) (i : ℕ) (d : Pair) → i < length given → value_of name (drop i given) ≡ value_of name (get_or given i d ∷ drop (i + 1) given)
value_turn name given i d lt = at_drop_more (value_of name) given i d lt
