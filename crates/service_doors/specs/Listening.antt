-- What doors show, and what a call of them changes of that.
use Rattle.std.specs.Prelude.{◌≡◌, ℕ, List, [], ◌∷◌, ◌++◌, map, length, take, drop, replicate, Option, Some, None, IfSome}
use Rattle.std.specs.List.{All}
use Rattle.wfs_ends.specs.Ends.{Shown, Rose}
use Rattle.service_doors.specs.declared.doors.Asked.{Asked}
use Rattle.service_doors.specs.declared.doors.DoorFault.{DoorFault}
use Rattle.service_doors.specs.declared.doors.DoorFault.TheVariants as fault
use Rattle.service_doors.specs.Accepting.{Accepting, IsNew}

-- What doors show.
pub record Listening : Type 0 where
  -- what they were asked and gave, in order, where they tell
  pub asked : Option (List Asked)
  -- what the links of each acceptor still to come show, in order, where they tell
  pub ready : Option (List (List Shown))
  -- how many calls failed, up to the last value of a u64
  pub faults : ℕ

-- what a call asks for
abbrev pub asking : List ℕ → ℕ → Asked
asking address workers = record { address = address; workers = workers }

-- the first n of a list, and where it has too few, this one in the place of each that it lacks
abbrev pub first_of : {X : Type 0} → X → ℕ → List X → List X
first_of none n xs = take n (xs ++ replicate n none)

-- What was asked with one more behind it, and what is ready without the first n. Doors that do not tell still do not.
abbrev pub asked_after : Option (List Asked) → Asked → Option (List Asked)
asked_after None ask = None
asked_after (Some asked) ask = Some (asked ++ ask ∷ [])

abbrev pub ready_after : ℕ → Option (List (List Shown)) → Option (List (List Shown))
ready_after n None = None
ready_after n (Some ready) = Some (drop n ready)

-- what was asked for was given: these acceptors
pub record Opens (old : Listening) (ask : Asked) (acceptors : List Accepting) (new : Listening) : Type 0 where
  pub number : length acceptors ≡ ask.workers
  pub fresh : All IsNew acceptors
  pub left : IfSome old.ready (λ ready. map (λ a. a.left) acceptors ≡ map Some (first_of [] ask.workers ready))
  pub ready : new.ready ≡ ready_after ask.workers old.ready
  pub asked : new.asked ≡ asked_after old.asked ask
  pub faults : new.faults ≡ old.faults

-- a call failed, and nothing else changed
pub record HasFailed (old new : Listening) : Type 0 where
  pub cause : Rose old.faults new.faults
  pub same : new ≡ record old { faults = new.faults }

-- what a refusal changes
abbrev pub Refuses : DoorFault → Listening → Listening → Type 0
Refuses fault.Failed old new = HasFailed old new
Refuses fault.OutOfMemory old new = new ≡ old
