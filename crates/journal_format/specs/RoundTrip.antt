-- What was put reads back, and whatever is read was put so.
use Rattle.std.specs.Prelude.{◌≡◌, ℕ, List, [], map, Option, Some, None, Ok}
use Rattle.wfs_model.specs.declared.stored.StoredQuery.{StoredQuery}
use Rattle.wfs_model.specs.declared.change.Change.{Change}
use Rattle.wfs_model.specs.declared.change.Change.TheVariants.{Opening, Rows, Created, Dropped, Base}
use Rattle.journal_format.specs.declared.recorded.Recorded.{Recorded}
use Rattle.journal_format.specs.Numbers.{AreBytes}
use Rattle.journal_format.specs.Spelling.{body_of, AreShort, IsSpelled}
use Rattle.journal_format.specs.Reading.{plain, record_of}
use Rattle.journal_format.specs.Writable.{IsWritable}

-- a stored query without what it asks
abbrev pub bare : StoredQuery → StoredQuery
bare query = record query { queries = [] }

-- what the body of a change says of it: all but what its stored queries ask
abbrev pub recorded_of : Change → List ℕ → Recorded
recorded_of (Opening number) signature = record { change = Opening number; signature = Some signature }
recorded_of (Rows parts) signature = plain (Rows parts)
recorded_of (Created queries) signature = plain (Created (map bare queries))
recorded_of (Dropped id) signature = plain (Dropped id)
recorded_of (Base opening counters) signature = plain (Base opening counters)

-- the body of a change reads as the change
abbrev pub IsReadBack : Change → List ℕ → Type 0
IsReadBack change signature = record_of (body_of change signature) ≡ Ok (recorded_of change signature)

-- What was put reads back.
abbrev pub ReadsBack : Type 0
ReadsBack = (change : Change) (signature : List ℕ) → IsSpelled change signature → IsWritable change signature → IsReadBack change signature

-- a text that may not be there: it is then empty
abbrev pub text_or_empty : Option (List ℕ) → List ℕ
text_or_empty None = []
text_or_empty (Some text) = text

-- the body of the change that was read
abbrev pub spelling_of : Recorded → List ℕ
spelling_of recorded = body_of recorded.change (text_or_empty recorded.signature)

-- bytes that spell what was read of them, which may be put again
pub record IsSpelledBy (recorded : Recorded) (bytes : List ℕ) : Type 0 where
  pub spelling : spelling_of recorded ≡ bytes
  pub short : AreShort recorded.change
  pub writable : IsWritable recorded.change (text_or_empty recorded.signature)

-- Nothing else is read: each change has one spelling.
abbrev pub HasOneSpelling : Type 0
HasOneSpelling = (bytes : List ℕ) (recorded : Recorded) → AreBytes bytes → record_of bytes ≡ Ok recorded → IsSpelledBy recorded bytes
