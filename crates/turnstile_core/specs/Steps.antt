-- What each step does to a seat's view, and what it tells of the value.
use Rattle.std.specs.Prelude.{◌≡◌, ◌≢◌, ℕ, ◌+◌, ◌%◌, ◌^◌, ◌≤◌, Bool, true, false, List, [], ◌∷◌, ◌++◌, max, length, Option, Some, None}
use mathlib.Core.List.{IsPrefix}
use Rattle.atomic_table.specs.Table.{Me}
use Rattle.turnstile_core.specs.Places.{places_of}
use Rattle.turnstile_core.specs.declared.kept.Kept.{Ghosts as Meaning}
use Rattle.turnstile_core.specs.declared.view.View.{View}
use Rattle.turnstile_core.specs.declared.view.Past.{Past}
use Rattle.turnstile_core.specs.declared.view.Stage.{Stage}
use Rattle.turnstile_core.specs.declared.view.Stage.TheVariants.{Spent, Idle, Waits, Holds}

-- the seat of number 0 that has seen nothing, of a turnstile that begins with this
abbrev pub fresh_past : {T E : Type 0} → List T → Past T E
fresh_past origin = record { number = 0; given = 0; front = 0; seen = []; places = []; tally = 0; shown = 0; origin = origin }

module _ {T : Type 0} where
  -- between two calls a seat is idle or holds the turn
  abbrev pub is_at_rest : Stage T → Bool
  is_at_rest Spent = false
  is_at_rest Idle = true
  is_at_rest (Waits t) = false
  is_at_rest (Holds t x) = true

  -- a seat that holds the turn has the slot, and has taken the value out of it
  abbrev pub carried : Stage T → List (ℕ × Option T)
  carried Spent = []
  carried Idle = []
  carried (Waits t) = []
  carried (Holds t x) = (0, None) ∷ []

-- the value has the opening of each of these
abbrev pub OpensAll : {T : Type 0} → (T → T → Type 0) → List T → T → Type 0
OpensAll opening [] x = Unit {0}
OpensAll opening (y ∷ ys) x = opening y x × OpensAll opening ys x

-- What becomes of what a seat knows
module _ {T E : Type 0} where
  -- as the seat takes the turn and finds the value x: it has seen all entries, and knows how many are shown
  abbrev pub caught_up : Meaning T E → Past T E → T → Past T E
  caught_up mean p x = record p { seen = mean.list x; front = length (mean.list x); shown = mean.published x }

  -- as it enters: the entries are one more, and the last is its own
  abbrev pub grown : Past T E → List E → Past T E
  grown p es = record p { seen = es; front = length es; places = p.places ++ length p.seen ∷ [] }

  -- as it shows n entries
  abbrev pub shown_at : Past T E → ℕ → Past T E
  shown_at p n = record p { shown = n }

  -- as it sees that n entries are shown
  abbrev pub saw : Past T E → ℕ → Past T E
  saw p n = record p { shown = n; front = max p.front n }

  -- as it passes the turn on, with this tally for its number
  abbrev pub tallied : Past T E → ℕ → Past T E
  tallied p n = record p { tally = n }

  -- as it gives one number more
  abbrev pub gave_one : Past T E → Past T E
  gave_one p = record p { given = p.given + 1 }

  -- the seat with that number, which has seen as much and has no entries
  abbrev pub newcomer : Past T E → Past T E
  newcomer p = record p { number = p.given + 1; given = 0; places = []; tally = 0 }

-- What becomes of a seat's view
module _ {T E : Type 0} where
  -- the first seat, of a turnstile that begins with x
  abbrev pub root : T → View T E
  root x = record { stage = Idle; past = fresh_past (x ∷ []); joined = [] }

  -- the seat at another stage
  abbrev pub at_stage : View T E → Stage T → View T E
  at_stage v st = record v { stage = st }

  -- the seat with other knowledge
  abbrev pub with_past : View T E → Past T E → View T E
  with_past v p = record v { past = p }

  -- the seat holds the turn by the ticket t, and found the value x
  abbrev pub took : Meaning T E → View T E → ℕ → T → View T E
  took mean v t x = record v { stage = Holds t x; past = caught_up mean v.past x }

  -- the turn is passed on
  abbrev pub left_with : View T E → ℕ → View T E
  left_with v n = record v { stage = Idle; past = tallied v.past n }

  -- a seat is split off: the one that gives a number, and the new one
  abbrev pub split_left : View T E → View T E
  split_left v = with_past v (gave_one v.past)

  abbrev pub split_right : View T E → View T E
  split_right v = record { stage = Idle; past = newcomer v.past; joined = [] }

  -- v takes in what w knows, or what all these seats know
  abbrev pub join_both : View T E → View T E → View T E
  join_both v w = record v { joined = w.past ∷ v.joined }

  abbrev pub joined_with : View T E → List (Past T E) → View T E
  joined_with v ps = record v { joined = ps ++ v.joined }

  -- the seat that was taken in
  abbrev pub join_spent : View T E
  join_spent = record { stage = Spent; past = fresh_past []; joined = [] }

-- the value has all that the seat knows: its history begins with what the seat saw, is no shorter than the seat's front, and has the seat's
-- own entries at just its places; it has the seat's tally, shows no fewer entries than the seat knew, and has the opening
pub record HasAll {T E : Type 0} (mean : Meaning T E) (x : T) (p : Past T E) : Type 0 where
  pub begins : IsPrefix p.seen (mean.list x)
  pub front : p.front ≤ length (mean.list x)
  pub places : places_of mean.seat_of p.number (mean.list x) ≡ p.places
  pub tally_is : mean.tally x p.number ≡ p.tally
  pub shown : p.shown ≤ mean.published x
  pub opened : OpensAll mean.opening p.origin x

-- A seat in a step: its view, with the slots that it has taken
abbrev Sat : Type 0 → Type 0 → Type 0
Sat T E = Me (Option T) (View T E)

-- the seat knows this after the step, and nothing else of it changed
abbrev pub Learns : {T E : Type 0} → Sat T E → Past T E → Sat T E → Type 0
Learns m p m' = m' ≡ (with_past m.0 p, m.1)

-- a seat that found x may pass the turn on: it has put y back into the slot, of which it has seen all
pub record MayLeave {T E : Type 0} (mean : Meaning T E) (m : Sat T E) (x y : T) : Type 0 where
  pub holds : (t : ℕ) × (m.0.stage ≡ Holds t x)
  pub back : m.1 ≡ (0, Some y) ∷ []
  pub entries : mean.list y ≡ m.0.past.seen
  pub shown : mean.published y ≡ m.0.past.shown
  pub settled : mean.settled y
  pub tallies : (n : ℕ) → n ≢ m.0.past.number → mean.tally y n ≡ mean.tally x n
  pub opening : OpensAll mean.opening m.0.past.origin y

-- a seat that put y back is idle, with the tally of y for its number
abbrev pub HasLeft : {T E : Type 0} → Meaning T E → Sat T E → Sat T E → Type 0
HasLeft {T} mean m m' = (y : T) → m.1 ≡ (0, Some y) ∷ [] → m' ≡ (left_with m.0 (mean.tally y m.0.past.number), [])

-- a seat has waited for its turn, and has taken the value x out of the slot
abbrev pub HasTaken : {T E : Type 0} → Meaning T E → Sat T E → T → Sat T E → Type 0
HasTaken {T} mean m x m' = HasAll mean x m.0.past × mean.settled x × ((t : ℕ) × (m' ≡ (took mean m.0 t x, (0, None) ∷ [])))

-- What each kind of step on a word tells, of the seat before, the number that the word had, and the seat after
module _ {T E : Type 0} where
  -- fetch and add on the next ticket: the seat waits with the ticket found
  abbrev pub drawn : Sat T E → ℕ → Sat T E → Type 0
  drawn m n m' = (t : ℕ) × (n ≡ t % 2 ^ 64) × (m' ≡ (at_stage m.0 (Waits t), m.1))

  -- load of the served ticket: where it is the seat's own, the seat holds the turn and takes the slot with the value; else nothing changes
  abbrev pub looked : Meaning T E → Sat T E → ℕ → Sat T E → Type 0
  looked mean m n m' = (t : ℕ) → m.0.stage ≡ Waits t
      → (n ≡ t % 2 ^ 64 → (x : T) × HasAll mean x m.0.past × mean.settled x × (m' ≡ (took mean m.0 t x, (0, Some x) ∷ m.1))) × (n ≢ t % 2 ^ 64 → m' ≡ m)

  -- fetch and add on the number of entries: the seat has seen these entries
  abbrev pub entered : List E → Sat T E → ℕ → Sat T E → Type 0
  entered es m n m' = Learns m (grown m.0.past es) m'

  -- fetch and max, with k, on the number of entries shown
  abbrev pub showed : ℕ → Sat T E → ℕ → Sat T E → Type 0
  showed k m n m' = Learns m (shown_at m.0.past k) m'

  -- load of the number of entries shown
  abbrev pub spied : Sat T E → ℕ → Sat T E → Type 0
  spied m n m' = (m.0.past.shown ≤ n) × Learns m (saw m.0.past n) m'

  -- fetch and add on the served ticket, once the value is back in the slot
  abbrev pub passed : Meaning T E → Sat T E → ℕ → Sat T E → Type 0
  passed mean m n m' = HasLeft mean m m'
