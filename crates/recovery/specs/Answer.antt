-- What a recovery answers, and what it writes.
use Rattle.std.specs.Prelude.{◌≡◌, ◌⊎◌, ◌≤◌, ◌<◌, ◌+◌, ℕ, List, [], length, get_or, Bool, false, cond, Option}
use Rattle.disk_core.specs.Disk.{Leads, Same, Torn}
use Rattle.disk_core.specs.Sides.{chosen, spare}
use Rattle.disk_core.specs.declared.pair.Pair.{Pair}
use Rattle.feature_journal.specs.declared.journal.Journal.{Journal}
use Rattle.feature_journal.specs.Kept.{is_second, generation_in, length_of}
use Rattle.recovery.specs.declared.fault.RecoverFault.{RecoverFault}
use Rattle.recovery.specs.declared.fault.RecoverFault.TheVariants.{DiskFault, NotAJournal, NotOfSchema, Full, OutOfMemory}
use Rattle.recovery.specs.Looked.{Untouched}
use Rattle.recovery.specs.Outcome.{Outcome}
use Rattle.recovery.specs.Outcome.Outcome.{refused, no_side, found}

-- the current side of a journal
pub record Current {D : Type 0} (second : Bool) (generation gate : ℕ) (journal : Journal D) : Type 0 where
  pub second_is : is_second journal ≡ second
  pub generation_is : generation_in journal ≡ generation
  pub length_is : length_of journal ≡ gate + 1

-- The journal is that of the current side, or a new one where no side is current, which has 17 bytes.
abbrev pub Answered : {D : Type 0} → Journal D → Outcome → (limit : ℕ) (taken : List (List ℕ)) → Type 0
Answered journal (refused fault bodies) limit taken = ⊥
Answered journal no_side limit taken = Current false 1 16 journal × (taken ≡ []) × (17 ≤ limit)
Answered journal (found second generation gate bodies) limit taken = Current second generation gate journal × (taken ≡ bodies)

-- The refusal is the outcome; or the new side would pass the limit. A failed disk and want of memory have no cause here.
abbrev pub AnsweredErr : RecoverFault → Outcome → (limit : ℕ) (taken : List (List ℕ)) → Type 0
AnsweredErr DiskFault outcome limit taken = Unit {0}
AnsweredErr (NotAJournal place) outcome limit taken = outcome ≡ refused (NotAJournal place) taken
AnsweredErr (NotOfSchema number) outcome limit taken = outcome ≡ refused (NotOfSchema number) taken
AnsweredErr (Full sum) outcome limit taken = (outcome ≡ refused (Full sum) taken) ⊎ ((outcome ≡ no_side) × (limit < 17) × (sum ≡ 17))
AnsweredErr OutOfMemory outcome limit taken = Unit {0}

-- the answer of a look that writes nothing
abbrev pub LengthIs : ℕ → Outcome → (taken : List (List ℕ)) → Type 0
LengthIs n (refused fault bodies) taken = ⊥
LengthIs n no_side taken = (n ≡ 0) × (taken ≡ [])
LengthIs n (found second generation gate bodies) taken = (n ≡ gate + 1) × (taken ≡ bodies)

-- Of the current side at most the byte at the gate is written, and that only where it is not 0; of the other one at most
-- byte 0, and that only where it is neither 0 nor 1, in a side of at least 17 bytes.
pub record Gates {D : Type 0} (moment : D → ℕ) (since : D → ℕ → List ℕ → Type 0) (images : D → List ℕ → Type 0) (second : Bool) (gate : ℕ) (a b : List ℕ) (old new : Pair D) : Type 0 where
  pub current : Leads moment since images (Torn gate 1) (chosen second old) (chosen second new)
  pub current_closed : get_or (cond second b a) gate 1 ≡ 0 → Leads moment since images Same (chosen second old) (chosen second new)
  pub other : Leads moment since images (Torn 0 1) (spare second old) (spare second new)
  pub other_left : (length (cond second a b) < 17) ⊎ ((get_or (cond second a b) 0 2 ≡ 0) ⊎ (get_or (cond second a b) 0 2 ≡ 1)) → Leads moment since images Same (spare second old) (spare second new)

-- Where the bytes are refused nothing is written, and where a side is current gates alone are.
abbrev pub OnlyGates : {D : Type 0} (shown : D → Option (List ℕ)) (moment : D → ℕ) (since : D → ℕ → List ℕ → Type 0) (images : D → List ℕ → Type 0) → Outcome → (a b : List ℕ) → Pair D → Pair D → Type 0
OnlyGates shown moment since images (refused fault bodies) a b old new = Untouched shown moment since images old new
OnlyGates shown moment since images no_side a b old new = Unit {0}
OnlyGates shown moment since images (found second generation gate bodies) a b old new = Gates moment since images second gate a b old new
