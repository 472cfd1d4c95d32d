-- What holds of all that outlives the process, from the first opening on.
use Rattle.std.specs.Prelude.{◌≡◌, ℕ, ◌≤◌, false, List, length, get_or, All, Ok}
use Rattle.std.specs.List.{AllPairs}
use Rattle.std.specs.Str.{bytes_eq}
use Rattle.feature_values.specs.declared.feature.Rid.{Rid}
use Rattle.feature_values.specs.declared.schema.Schema.{Schema}
use Rattle.feature_values.specs.Fits.{feature_fits}
use Rattle.fes_filter.specs.View.{IsInOrder}
use Rattle.wfs_model.specs.State.{Durable}
use Rattle.wfs_model.specs.Stored.{is_id_query}
use Rattle.wfs_model.specs.OfSchema.{IsStoredOf}

-- a number that was given: numbers are counted from 1, and none is given that the type's counter has not reached
abbrev pub IsGiven : List ℕ → Rid → Type 0
IsGiven counters id = (1 ≤ id.number) × (id.number ≤ get_or counters id.kind 0)

pub record IsKept (schema : Schema) (kept : Durable) : Type 0 where
  -- the features stand in default order, each once, and each is one of the schema under a number that was given
  pub order : IsInOrder kept.features
  pub fitting : All (λ f. feature_fits schema f ≡ Ok tt) kept.features
  pub given : All (λ f. IsGiven kept.counters f.id) kept.features
  -- there is a counter for each type
  pub counters : length kept.counters ≡ length schema.types
  -- the stored queries are such as the schema allows, under identifiers of their own
  pub stored : All (IsStoredOf schema) kept.stored
  pub different : AllPairs (λ a b. bytes_eq a.id b.id ≡ false) kept.stored
  pub made : All (λ query. is_id_query query.id ≡ false) kept.stored
