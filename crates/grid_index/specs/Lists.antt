-- The lists of a grid, by place.
use Rattle.std.specs.Prelude.{◌≡◌, ℕ, ◌-◌, ◌≤◌, List, [], map, Option, Some, None, Vec}
use Rattle.std.specs.HashMap.{HashMap, get}
use Rattle.std.specs.Option.{unwrap_or}
use Rattle.std.specs.Vec.{vec_len, vec_capacity}
use Rattle.grid_index.specs.declared.lists.Lists.{Lists}
use Rattle.grid_index.specs.Near.{Placed}
use Rattle.grid_index.specs.Places.{Place, same_place}

module _ {Z : Type 0} where
  -- the pairs of a list, and for how many more it has room
  abbrev pub items_of : Vec Placed Z → List Placed
  items_of list = list.items

  abbrev pub spare_of : Vec Placed Z → ℕ
  spare_of list = vec_capacity list - vec_len list

  -- the same of a list that there may be
  abbrev pub listed : Option (Vec Placed Z) → List Placed
  listed None = []
  listed (Some list) = items_of list

  abbrev pub spare : Option (Vec Placed Z) → ℕ
  spare None = 0
  spare (Some list) = spare_of list

  -- by place
  abbrev pub pairs_of_all : List (Place × Vec Placed Z) → List (Place × List Placed)
  pairs_of_all entries = map (λ e. (e.0, items_of e.1)) entries

  abbrev pub room_of_all : List (Place × Vec Placed Z) → List (Place × ℕ)
  room_of_all entries = map (λ e. (e.0, spare_of e.1)) entries

abbrev pub all_pairs : Lists → List (Place × List Placed)
all_pairs lists = pairs_of_all lists.by_place.entries

abbrev pub all_room : Lists → List (Place × ℕ)
all_room lists = room_of_all lists.by_place.entries

-- the pairs at a place
abbrev pub listed_at : Lists → Place → List Placed
listed_at lists place = listed (get same_place lists.by_place place)

-- for how many more pairs there is room at a place
abbrev pub spare_at : Lists → Place → ℕ
spare_at lists place = spare (get same_place lists.by_place place)

-- each place has the pairs that it had
abbrev pub AreSame : Lists → Lists → Type 0
AreSame old new = (place : Place) → listed_at new place ≡ listed_at old place

-- no place has less room
abbrev pub IsRoomier : Lists → Lists → Type 0
IsRoomier old new = (place : Place) → spare_at old place ≤ spare_at new place

-- what is counted at a place
abbrev pub count_in : {S : Type 0} → HashMap Place ℕ S → Place → ℕ
count_in counts place = unwrap_or (get same_place counts place) 0
