-- The history of an opening, and what it leaves in memory.
use Rattle.std.specs.Prelude.{◌≡◌, ℕ, List, [], ◌∷◌, All, Option, None}
use Rattle.std.specs.List.{sum_by}
use Rattle.feature_values.specs.declared.schema.Schema.{Schema}
use Rattle.wfs_model.specs.declared.change.Change.{Change}
use Rattle.wfs_model.specs.declared.entry.Entry.{Entry}
use Rattle.wfs_model.specs.History.{IsLegal, after_all, stepped}
use Rattle.wfs_model.specs.Kept.{IsKept}
use Rattle.wfs_model.specs.OfSchema.{IsOfSchema}
use Rattle.wfs_model.specs.Played.{change_of}
use Rattle.wfs_model.specs.State.{State, durable}

-- a history is legal, and each of its requests is such as the schema allows
pub record IsHistory (schema : Schema) (opening : State) (entries : List Entry) : Type 0 where
  pub legal : IsLegal schema opening entries
  pub fitting : All (λ entry. IsOfSchema schema entry.request) entries

-- the sum of the sizes of entries, in bytes
abbrev pub bytes_of : List Entry → ℕ
bytes_of entries = sum_by (λ entry. entry.size) entries

-- the change that the last entry made, where it made one
abbrev pub last_made : Schema → State → List Entry → Option Change
last_made schema state [] = None
last_made schema state (entry ∷ []) = change_of schema state entry.moment entry.request
last_made schema state (entry ∷ (next ∷ entries)) = last_made schema (stepped schema state entry) (next ∷ entries)

-- What stands in memory is what the history leaves.
pub record IsPast (schema : Schema) (opening now : State) (entries : List Entry) (size : ℕ) (made : Option Change) : Type 0 where
  pub history : IsHistory schema opening entries
  pub state : now ≡ after_all schema opening entries
  pub well : IsKept schema (durable now)
  pub bytes : size ≡ bytes_of entries
  pub last : made ≡ last_made schema opening entries
