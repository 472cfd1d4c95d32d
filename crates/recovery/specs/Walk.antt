-- What reading the records of one side comes to.
use Rattle.std.specs.Prelude.{◌≡◌, ◌≤◌, ◌<◌, ◌+◌, ◌^◌, ℕ, List, [], ◌∷◌, ◌++◌, length, take, drop, min, Bool, false, Option, None, Some, Result, Ok, Err}
use Rattle.recovery.specs.declared.walk.Side.{Side}
use Rattle.recovery.specs.declared.walk.Next.{Next}
use Rattle.recovery.specs.declared.walk.Next.TheVariants.{End, Torn, Full, Whole}
use Rattle.recovery.specs.declared.fault.Place.{Place}
use Rattle.recovery.specs.declared.fault.RecoverFault.{RecoverFault}
use Rattle.recovery.specs.declared.fault.RecoverFault.TheVariants as faults
use Rattle.recovery.specs.declared.replay.ReplayFault.{ReplayFault}
use Rattle.recovery.specs.declared.replay.ReplayFault.TheVariants as replay_faults
use Rattle.feature_journal.specs.Kept.{greatest_side}
use Rattle.feature_journal.specs.Side.{opened}
use Rattle.feature_journal.specs.Whole.{Fits}
use Rattle.feature_journal.specs.Recover.{records_at, body_at, is_open}
use Rattle.recovery.specs.Outcome.{Judge, Outcome, judged_pair}
use Rattle.recovery.specs.Outcome.Outcome.{refused, found}

-- As many bytes are held as there are, or as the limit and four more.
pub record IsSide (side : Side) : Type 0 where
  pub held : length side.bytes.items ≡ min side.len (side.limit + 4)
  pub limit : side.limit ≤ greatest_side

-- they are those of this file
pub record IsFile (side : Side) (c : List ℕ) : Type 0 where
  pub bytes : side.bytes.items ≡ take (side.limit + 4) c
  pub len : side.len ≡ length c

-- at this place stands an open gate with a whole record of this size
pub record Opens (gate size : ℕ) (c : List ℕ) : Type 0 where
  pub more : List ℕ
  pub body : List ℕ
  pub rest : List ℕ
  pub is : drop gate c ≡ 1 ∷ more
  pub whole : body_at more ≡ Some (body, rest)
  pub size_is : length body ≡ size

-- an open gate with no whole record
pub record OpensTorn (gate : ℕ) (c : List ℕ) : Type 0 where
  pub more : List ℕ
  pub is : drop gate c ≡ 1 ∷ more
  pub none : body_at more ≡ None

pub record OpensFull (sum limit gate : ℕ) (c : List ℕ) : Type 0 where
  pub size : ℕ
  pub opens : Opens gate size c
  pub is : sum ≡ gate + 6 + size
  pub over : limit < sum

-- a whole record within the limit, whose body is among the bytes that are held
pub record OpensWhole (size gate : ℕ) (bytes c : List ℕ) : Type 0 where
  pub opens : Opens gate size c
  pub body : opens.body ≡ take size (drop (gate + 5) bytes)
  pub rest : opens.rest ≡ drop (gate + 5 + size) c

abbrev pub NextIs : Next → (limit gate : ℕ) → (bytes c : List ℕ) → Type 0
NextIs End limit gate bytes c = is_open (drop gate c) ≡ false
NextIs Torn limit gate bytes c = OpensTorn gate c
NextIs (Full sum) limit gate bytes c = OpensFull sum limit gate c
NextIs (Whole size) limit gate bytes c = OpensWhole size gate bytes c

-- the body is among the bytes that are held, and they spell it
pub record Held (size limit len gate : ℕ) (bytes : List ℕ) : Type 0 where
  pub limit_fits : gate + 6 + size ≤ limit
  pub len_fits : gate + 6 + size ≤ len
  pub size_fits : size < 2 ^ 32
  pub spelled : take (gate + 5 + size) bytes ≡ take gate bytes ++ opened (take size (drop (gate + 5) bytes))

abbrev pub NextFits : Next → (limit len gate : ℕ) → (bytes : List ℕ) → Type 0
NextFits End limit len gate bytes = Unit {0}
NextFits Torn limit len gate bytes = Unit {0}
NextFits (Full sum) limit len gate bytes = Unit {0}
NextFits (Whole size) limit len gate bytes = Held size limit len gate bytes

-- what is to come from a gate on, where these bodies were taken
abbrev pub left : Judge → (limit : ℕ) (second : Bool) (generation : ℕ) (c : List ℕ) → ℕ → List (List ℕ) → Outcome
left judge limit second generation c gate taken = judged_pair judge limit second generation (gate + 1) taken (records_at (length c) (drop gate c))

abbrev pub fault_from : ReplayFault → Place → ℕ → RecoverFault
fault_from replay_faults.BadBytes place number = faults.NotAJournal place
fault_from replay_faults.NotOfSchema place number = faults.NotOfSchema number
fault_from replay_faults.OutOfMemory place number = faults.OutOfMemory

-- a fault that is the outcome, or want of memory
abbrev pub Refuses : RecoverFault → Outcome → List (List ℕ) → Type 0
Refuses faults.DiskFault outcome taken = ⊥
Refuses (faults.NotAJournal place) outcome taken = outcome ≡ refused (faults.NotAJournal place) taken
Refuses (faults.NotOfSchema number) outcome taken = outcome ≡ refused (faults.NotOfSchema number) taken
Refuses (faults.Full sum) outcome taken = outcome ≡ refused (faults.Full sum) taken
Refuses faults.OutOfMemory outcome taken = Unit {0}

-- what one turn makes of what was to come
abbrev pub Turned : Result (Option ℕ) RecoverFault → (ℕ → List (List ℕ) → Outcome) → (second : Bool) (generation gate : ℕ) (old new : List (List ℕ)) → Type 0
Turned (Ok None) coming second generation gate old new = (coming gate old ≡ found second generation gate old) × (new ≡ old)
Turned (Ok (Some next)) coming second generation gate old new = coming gate old ≡ coming next new
Turned (Err fault) coming second generation gate old new = Refuses fault (coming gate old) new

-- a record was taken
pub record Moves (side : Side) (gate next : ℕ) (old new : List (List ℕ)) : Type 0 where
  pub body : List ℕ
  pub fits : Fits body
  pub taken : new ≡ old ++ body ∷ []
  pub spelled : take next side.bytes.items ≡ take gate side.bytes.items ++ opened body
  pub later : gate < next
  pub limit_fits : next + 1 ≤ side.limit
  pub len_fits : next < side.len

-- a record was taken, or none was left
abbrev pub Moved : (side : Side) (gate : ℕ) (old new : List (List ℕ)) → Option ℕ → Type 0
Moved side gate old new None = new ≡ old
Moved side gate old new (Some next) = Moves side gate next old new

-- all records were handed over, or one was refused
abbrev pub Walked : Result ℕ RecoverFault → Outcome → (second : Bool) (generation : ℕ) (taken : List (List ℕ)) → Type 0
Walked (Ok gate) outcome second generation taken = outcome ≡ found second generation gate taken
Walked (Err fault) outcome second generation taken = Refuses fault outcome taken
