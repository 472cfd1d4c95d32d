-- A list with one more in its middle.
use Rattle.std.proofs.Common.{◌≡◌, ℕ, ◌+◌, ◌-◌, ◌≤◌, List, [], ◌∷◌, ◌++◌, length, take, drop, subst}
use Rattle.std.proofs.Math.Seq.{take-append-add, drop-append-add}
use Rattle.std.proofs.lemmas.List.{length-take-le}
use Rattle.std.specs.List.{insert}
use Rattle.wfs_ends.specs.Ends.{Connection}
use Rattle.service_doors.specs.Memory.{Turns, row_of, after_finish}

pub front_of_insert : {X : Type 0} (xs : List X) (i : ℕ) (y : X) → i ≤ length xs → take (i + 1) (insert xs i y) ≡ take i xs ++ y ∷ []
front_of_insert xs i y le =
    subst (λ (n : ℕ). take (n + 1) (insert xs i y) ≡ take i xs ++ y ∷ []) (length-take-le i xs le) (take-append-add (take i xs) (y ∷ drop i xs) 1)

pub back_of_insert : {X : Type 0} (xs : List X) (i : ℕ) (y : X) → i ≤ length xs → drop (i + 1) (insert xs i y) ≡ drop i xs
back_of_insert xs i y le =
    subst (λ (n : ℕ). drop (n + 1) (insert xs i y) ≡ drop i xs) (length-take-le i xs le) (drop-append-add (take i xs) (y ∷ drop i xs) 1)

-- an acceptor in memory whose links have one more in their middle
pub finished_row : (links new : List Connection) (at out : ℕ) (calls : Turns) (link : Connection) → at ≤ length links → new ≡ insert links at link
    → row_of new (at + 1) (out - 1) calls ≡ after_finish (row_of links at out calls) link
finished_row links new at out calls link le e = rw (e, front_of_insert links at link le, back_of_insert links at link le)
