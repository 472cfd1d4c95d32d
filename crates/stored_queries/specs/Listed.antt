-- The list of stored queries, and how many more it takes without memory.
use Rattle.std.specs.Prelude.{◌≡◌, ℕ, ◌<◌, List, ◌++◌, length, get_or, Option, Some, None, Result, Ok, Err}
use Rattle.wfs_model.specs.declared.stored.StoredQuery.{StoredQuery}
use Rattle.wfs_model.specs.declared.fault.StoredFault.{StoredFault}
use Rattle.wfs_model.specs.declared.fault.StoredFault.TheVariants.{DuplicateId}
use Rattle.wfs_model.specs.Stored.{created}

pub record Listed : Type 0 where
  -- but the built-in one, in the order in which they were made
  pub list : List StoredQuery
  -- for so many more no memory is taken
  pub spare : ℕ

-- a list that a call left, or the fault that it answered
abbrev pub left : List StoredQuery → Result (Unit {0}) StoredFault → Result (List StoredQuery) StoredFault
left list (Ok _) = Ok list
left list (Err fault) = Err fault

-- the first of new stored queries whose identifier is known, where there is one
abbrev pub IsFirstKnown : List StoredQuery → List StoredQuery → Option ℕ → Type 0
IsFirstKnown stored queries None = created stored queries ≡ Ok (stored ++ queries)
IsFirstKnown stored queries (Some i) =
    (i < length queries) × ((d : StoredQuery) → created stored queries ≡ Err (DuplicateId (get_or queries i d).id))
