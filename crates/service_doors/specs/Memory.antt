-- Acceptors and doors in memory.
use Rattle.std.specs.Prelude.{◌≡◌, ℕ, ◌-◌, List, [], ◌∷◌, ◌++◌, map, length, take, drop, Option, Some, None, Contains}
use Rattle.wfs_ends.specs.Ends.{Shown, Connection, shown_link, risen, capped}
use Rattle.service_doors.specs.declared.doors.Asked.{Asked}
use Rattle.service_doors.specs.declared.doors.DoorFault.{DoorFault}
use Rattle.service_doors.specs.declared.doors.DoorFault.TheVariants as fault
use Rattle.service_doors.specs.Accepting.{Accepting}
use Rattle.service_doors.specs.Listening.{Listening}

-- how many calls were made, which ones fail, and how many did
pub record Turns : Type 0 where
  pub made : ℕ
  pub failing : List ℕ
  pub faults : ℕ

abbrev pub new_calls : List ℕ → Turns
new_calls failing = record { made = 0; failing = failing; faults = 0 }

-- behind a call that did not fail, and behind one that did
abbrev pub passed : Turns → Turns
passed c = record c { made = risen c.made }

abbrev pub refused : Turns → Turns
refused c = record c { made = risen c.made; faults = risen c.faults }

-- an acceptor in memory: the finished links, those still to come, how many are out, and its calls of accept
pub record Row : Type 0 where
  pub done : List Connection
  pub left : List Connection
  pub out : ℕ
  pub calls : Turns

-- the links in a row, of which the first so many are finished
abbrev pub row_of : List Connection → ℕ → ℕ → Turns → Row
row_of links at out calls = record { done = take at links; left = drop at links; out = out; calls = calls }

-- an acceptor that has these links to hand out
abbrev pub new_row : List Connection → List ℕ → Row
new_row links failing = record { done = []; left = links; out = 0; calls = new_calls failing }

-- an acceptor without a link, whose calls do not fail
abbrev pub no_links : Row
no_links = new_row [] []

-- behind an accept, by what it answered, and behind one that failed
abbrev pub after_accept : Row → Option Connection → Row
after_accept r None = record r { calls = passed r.calls }
after_accept r (Some link) = record r { left = drop 1 r.left; out = risen r.out; calls = passed r.calls }

abbrev pub after_failed_accept : Row → Row
after_failed_accept r = record r { calls = refused r.calls }

-- behind a finish
abbrev pub after_finish : Row → Connection → Row
after_finish r link = record r { done = r.done ++ link ∷ []; out = r.out - 1 }

-- what links in memory show
abbrev pub shown_links : List Connection → List Shown
shown_links links = map shown_link links

-- what an acceptor in memory shows
abbrev pub accepting_of : Row → Accepting
accepting_of r = record { left = Some (shown_links r.left); done = Some (shown_links r.done); out = r.out; finished = capped (length r.done); faults = r.calls.faults }

-- no call was made of it
pub record IsNewRow (r : Row) : Type 0 where
  pub is : r ≡ new_row r.left r.calls.failing

-- doors in memory: the acceptors still to come, what was asked, and the calls of listen
pub record Entry : Type 0 where
  pub waiting : List Row
  pub asked : List Asked
  pub calls : Turns

-- behind a listen that gave n acceptors, and behind one that failed
abbrev pub after_listen : Entry → Asked → Entry
after_listen e ask = record e { waiting = drop ask.workers e.waiting; asked = e.asked ++ ask ∷ []; calls = passed e.calls }

abbrev pub after_failed_listen : Entry → Entry
after_failed_listen e = record e { calls = refused e.calls }

-- what doors in memory show
abbrev pub listening_of : Entry → Listening
listening_of e = record { asked = Some e.asked; ready = Some (map (λ r. shown_links r.left) e.waiting); faults = e.calls.faults }

-- what a refusal of doors in memory changes
abbrev pub RefusesEntry : DoorFault → Entry → Entry → Type 0
RefusesEntry fault.Failed old new = Contains old.calls.failing old.calls.made × (new ≡ after_failed_listen old)
RefusesEntry fault.OutOfMemory old new = new ≡ old
