-- How far a drill has come with a store.
use Rattle.std.specs.Prelude.{◌≡◌, ℕ, List, [], ◌∷◌, ◌++◌, Option, Some, IfSome, Result, Ok, Err, ⊤}
use Rattle.drill_requests.specs.Carried.{Ground, Course, Carried, full_next}
use Rattle.feature_journal.specs.Faults.{OneRose}
use Rattle.wfs_model.specs.declared.request.Request.{Request}
use Rattle.wfs_store.specs.declared.fault.StepFault.{StepFault}
use Rattle.wfs_store.specs.declared.fault.StepFault.TheVariants.{StoreFault, Full, OutOfMemory}
use Rattle.wfs_store.specs.Held.{Held}
use Rattle.wfs_store.specs.Kept.{body_length}
use Rattle.wfsd_commands.specs.declared.drilling.Sums.{Sums}
use Rattle.wfsd_commands.specs.Becoming.{GoesOn}

-- where a drill begins with a store
abbrev pub ground_of : {D : Type 0} → Held D → Ground
ground_of store = record { schema = store.schema; opening = store.opening; limits = store.limits; side = store.side; body = body_length store.schema }

-- a sum, where it has 64 bits
abbrev pub IsSum : Option ℕ → ℕ → Type 0
IsSum sum number = IfSome sum (λ n. n ≡ number)

-- these requests were carried out, and came to this course, which is the store's history
pub record HasDone {D : Type 0} (faults : D → ℕ) (first : Held D) (requests : List Request) (course : Course) (store : Held D) : Type 0 where
  pub carried : Carried (ground_of first) requests course
  pub entries : store.entries ≡ course.entries
  pub goes : GoesOn faults first store

-- the same, with the sums
pub record HasCome {D : Type 0} (faults : D → ℕ) (first : Held D) (requests : List Request) (sums : Sums) (store : Held D) : Type 0 where
  pub course : Course
  pub done : HasDone faults first requests course store
  pub number : sums.requests ≡ course.requests
  pub matched : IsSum sums.matched course.matched
  pub locked : IsSum sums.locked course.locked

-- why the next request was not carried out: a disk failed, or it would pass a limit
abbrev pub StopsFor : {D : Type 0} (faults : D → ℕ) (first : Held D) → Course → (behind : List Request) → Held D → StepFault → Type 0
StopsFor faults first course (next ∷ behind) store StoreFault = OneRose faults first.disks store.disks
StopsFor faults first course [] store StoreFault = ⊥
StopsFor faults first course (next ∷ behind) store (Full at) = full_next (ground_of first) course next ≡ Some at
StopsFor faults first course [] store (Full at) = ⊥
StopsFor faults first course behind store OutOfMemory = ⊤

-- These requests were carried out, and then it stopped before those.
pub record HasStopped {D : Type 0} (faults : D → ℕ) (first : Held D) (requests behind : List Request) (fault : StepFault) (store : Held D) : Type 0 where
  pub course : Course
  pub done : HasDone faults first requests course store
  pub cause : StopsFor faults first course behind store fault

-- what the next request comes to, wherever a drill began
abbrev pub CarriesOn : {D : Type 0} (faults : D → ℕ) → Request → Held D → Sums → Result (Unit {0}) StepFault → Held D → Sums → Type 0
CarriesOn {D} faults request old before (Ok done) new after =
    (first : Held D) (requests : List Request) → HasCome faults first requests before old → HasCome faults first (requests ++ request ∷ []) after new
CarriesOn {D} faults request old before (Err fault) new after =
    (first : Held D) (requests behind : List Request) → HasCome faults first requests before old → HasStopped faults first requests (request ∷ behind) fault new

-- it stopped somewhere within these requests
pub record StopsWithin {D : Type 0} (faults : D → ℕ) (first : Held D) (requests more : List Request) (fault : StepFault) (store : Held D) : Type 0 where
  pub done : List Request
  pub behind : List Request
  pub parts : more ≡ done ++ behind
  pub stopped : HasStopped faults first (requests ++ done) behind fault store

-- what some requests come to
abbrev pub CarriesAll : {D : Type 0} (faults : D → ℕ) → List Request → Held D → Sums → Result (Unit {0}) StepFault → Held D → Sums → Type 0
CarriesAll {D} faults more old before (Ok done) new after =
    (first : Held D) (requests : List Request) → HasCome faults first requests before old → HasCome faults first (requests ++ more) after new
CarriesAll {D} faults more old before (Err fault) new after =
    (first : Held D) (requests : List Request) → HasCome faults first requests before old → StopsWithin faults first requests more fault new

-- what a whole drill comes to
abbrev pub RunsThrough : {D : Type 0} (faults : D → ℕ) → List Request → Held D → Result Sums StepFault → Held D → Type 0
RunsThrough faults all first (Ok sums) store = HasCome faults first all sums store
RunsThrough faults all first (Err fault) store = StopsWithin faults first [] all fault store
