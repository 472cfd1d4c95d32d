-- What a spare list says of its boxes.
use Rattle.std.proofs.Common.{◌+◌, ◌≤◌, List, [], ◌∷◌, ◌++◌, arith}
use Rattle.std.proofs.lemmas.List.Sums.{sum_by-append, sum_by-cons}
use Rattle.geom_core.specs.Plane.{Bounds}
use Rattle.grid_index.specs.Gridded.{Gridded, room_at}
use Rattle.grid_index.specs.Places.{Place, taking}
use Rattle.grid_index.specs.Room.{IsSpare}

pub spared_alone : (grid : Gridded) (before after : List Bounds) (area : Bounds) → IsSpare (before ++ area ∷ after) grid → IsSpare (area ∷ []) grid
spared_alone grid before after area h place = omega (arith, h place, sum_by-append (taking place) before (area ∷ after), sum_by-cons (taking place) area after, sum_by-cons (taking place) area [])

pub spared_without : (old new : Gridded) (before after : List Bounds) (area : Bounds) → ((place : Place) → room_at old.room place ≤ room_at new.room place + taking place area) → IsSpare (before ++ area ∷ after) old → IsSpare (before ++ after) new
spared_without old new before after area r h place =
    omega (arith, r place, h place, sum_by-append (taking place) before (area ∷ after), sum_by-cons (taking place) area after, sum_by-append (taking place) before after)
