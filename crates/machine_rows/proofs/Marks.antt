-- Requests that the schema of marks allows.
use Rattle.std.proofs.Common.{◌≡◌, ℕ, ◌<◌, ◌≤◌, List, [], ◌∷◌, Some, None, Ok, arith}
use Rattle.std.specs.Prelude.{All, codes, length}
use Rattle.feature_values.specs.declared.schema.Schema.{Schema}
use Rattle.fes_filter.specs.Check.{check_of}
use Rattle.fes_filter.specs.declared.filter.Filter.{Filter}
use Rattle.fes_filter.specs.declared.query.Query.{Query}
use Rattle.lock_table.specs.declared.id.LockId.{LockId}
use Rattle.wfs_model.specs.declared.asked.Asked.TheVariants.{Plain}
use Rattle.wfs_model.specs.declared.change.Change.TheVariants.{Opening}
use Rattle.wfs_model.specs.declared.request.Request.TheVariants.{Lock, Renew, CreateStored}
use Rattle.wfs_model.specs.declared.request.Take.{Take}
use Rattle.wfs_model.specs.declared.stored.StoredQuery.{StoredQuery}
use Rattle.wfs_model.specs.Kept.{IsKept}
use Rattle.wfs_model.specs.Played.{played_one}
use Rattle.wfs_model.specs.State.{State, durable}
use Rattle.wfs_model.specs.OfSchema.{IsType, IsFilterOf, IsQueryOf, IsStoredOf, IsOfSchema, ids_in, places_in}
use Rattle.wfs_machine.specs.Kept.{KeepsWell}
use Rattle.transaction_core.specs.Marks.{AreMarks}
use Rattle.transaction_core.proofs.Marks.{alone, all_none, kind_is_of}

marks_with : (schema : Schema) (parameters : ℕ) (filter : Filter) → AreMarks schema → IsFilterOf schema (Some 0) parameters filter → IsQueryOf schema parameters (record { kind = Some 0; filter = Some filter; sort = [] })
marks_with schema parameters filter marks of = record { kind = alone (IsType schema) 0 (kind_is_of schema marks); filter = of; sort = all_none _ }

pub query_is_of : (schema : Schema) (filter : Filter) → AreMarks schema → IsFilterOf schema (Some 0) 0 filter → IsQueryOf schema 0 (record { kind = Some 0; filter = Some filter; sort = [] })
query_is_of schema filter marks of = marks_with schema 0 filter marks of

pub sized_is_of : (schema : Schema) (filter : Filter) → AreMarks schema → ids_in filter ≡ [] → places_in filter ≡ 0 ∷ [] → check_of schema (Some 0) filter ≡ Ok tt → IsQueryOf schema 1 (record { kind = Some 0; filter = Some filter; sort = [] })
sized_is_of schema filter marks ids places checked =
    marks_with schema 1 filter marks (record { checked = checked; ids = rw ids (all_none _); places = rw places (alone (λ (place : ℕ). place < 1) 0 (omega arith)) })

pub lock_is_of : (schema : Schema) (query : Query) (take : Take) (period : ℕ) → IsQueryOf schema 0 query → 1 ≤ period → IsOfSchema schema (Lock (Plain query ∷ []) take period)
lock_is_of schema query take period of long = record {
  types = all_none _;
  queries = alone (IsQueryOf schema 0) query of;
  names = all_none _;
  values = tt;
  actions = all_none _;
  stored = all_none _;
  periods = alone (λ (p : ℕ). 1 ≤ p) period long;
  kept = all_none _;
}

pub renewal_is_of : (schema : Schema) (lock : LockId) → IsOfSchema schema (Renew lock None)
renewal_is_of schema lock = record {
  types = all_none _;
  queries = all_none _;
  names = all_none _;
  values = tt;
  actions = all_none _;
  stored = all_none _;
  periods = all_none _;
  kept = all_none _;
}

pub stored_is_of : (schema : Schema) (query : StoredQuery) → query.parameters ≡ codes "l" ∷ [] → All (IsQueryOf schema 1) query.queries → IsStoredOf schema query
stored_is_of schema query names of = record {
  queries = rw names of;
  names = rw names (alone (λ (name : List ℕ). 0 < length name) (codes "l") (omega arith));
  different = λ i j d lt within. absurd (omega (arith, lt, rw names at within));
}

pub creation_is_of : (schema : Schema) (definitions : List StoredQuery) → All (IsStoredOf schema) definitions → IsOfSchema schema (CreateStored definitions)
creation_is_of schema definitions all = record {
  types = all_none _;
  queries = all_none _;
  names = all_none _;
  values = tt;
  actions = all_none _;
  stored = all;
  periods = all_none _;
  kept = all_none _;
}

-- an opening keeps well what outlives the process
pub opening_keeps : (schema : Schema) (state : State) (opening : ℕ) → IsKept schema (durable state) → KeepsWell schema state (Opening opening)
unfolding played_one
opening_keeps schema state opening is =
    record { order = is.order; fitting = is.fitting; given = is.given; counters = is.counters; stored = is.stored; different = is.different; made = is.made }
