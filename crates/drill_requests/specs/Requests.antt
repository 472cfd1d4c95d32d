-- The requests of a drill, in order.
use Rattle.std.specs.Prelude.{◌≡◌, ℕ, zero, suc, ◌+◌, ◌%◌, ◌==◌, pos, ◌-ℤ◌, Bool, true, if◌then◌else◌, List, [], ◌∷◌, ◌++◌, map, codes, Option, Some, None, slice_get}
use Rattle.geom_core.specs.declared.geometry.Geometry.TheVariants.{At, Along, Over}
use Rattle.geom_core.specs.Plane.{Point, Bounds, Area}
use Rattle.feature_values.specs.declared.feature.Feature.{Feature}
use Rattle.feature_values.specs.declared.schema.FeatureType.{FeatureType}
use Rattle.feature_values.specs.declared.schema.Property.{Property}
use Rattle.feature_values.specs.declared.schema.Schema.{Schema}
use Rattle.feature_values.specs.declared.schema.ValueKind.{ValueKind}
use Rattle.feature_values.specs.declared.schema.ValueKind.TheVariants as kind
use Rattle.feature_values.specs.declared.value.Value.{Value}
use Rattle.feature_values.specs.declared.value.Value.TheVariants.{Words, Whole, Truth, Shape}
use Rattle.fes_filter.specs.declared.filter.Filter.TheVariants.{InBox}
use Rattle.fes_filter.specs.declared.query.Query.{Query}
use Rattle.lock_table.specs.declared.words.Release.TheVariants as release
use Rattle.wfs_model.specs.declared.action.Action.{Action}
use Rattle.wfs_model.specs.declared.action.Action.TheVariants.{Insert, Delete}
use Rattle.wfs_model.specs.declared.asked.Asked.TheVariants.{Plain}
use Rattle.wfs_model.specs.declared.request.Request.{Request}
use Rattle.wfs_model.specs.declared.request.Request.TheVariants.{GetFeatures, Lock, Transact}
use Rattle.wfs_model.specs.declared.request.Take.TheVariants.{Free}
use Rattle.drill_requests.specs.Drawn.{Drawn}
use Rattle.drill_requests.specs.Rounds.{round_of}

-- ---- places

-- the place so far to the right of the round's, and above it
abbrev pub beside : Drawn → (right up : ℕ) → Point
beside round right up = record { x = pos (round.x + right); y = pos (round.y + up) }

-- the square of a round, with sides of length 10
abbrev pub square : Drawn → Bounds
square round = record { low = beside round 0 0; high = beside round 10 10 }

-- the line from the round's place to the far corner of the square, and the square as a polygon
abbrev pub diagonal : Drawn → List Point
diagonal round = beside round 0 0 ∷ beside round 10 10 ∷ []

abbrev pub area_of : Drawn → Area
area_of round = record {
  shell = beside round 0 0 ∷ beside round 10 0 ∷ beside round 10 10 ∷ beside round 0 10 ∷ beside round 0 0 ∷ [];
  holes = [];
}

-- what lies within 50,000 of the square in each direction
abbrev pub surroundings : Drawn → Bounds
surroundings round = record {
  low = record { x = pos round.x -ℤ pos 50_000; y = pos round.y -ℤ pos 50_000 };
  high = beside round 50_010 50_010;
}

-- the features of the round's type that meet a box
abbrev pub query_in : Drawn → Bounds → Query
query_in round area = record { kind = Some round.kind; filter = Some (InBox None area); sort = [] }

-- ---- features

-- the value of a property by its kind
abbrev pub value_of : Drawn → ValueKind → Value
value_of round kind.Words = Words (codes "a")
value_of round kind.Whole = Whole (pos round.number)
value_of round kind.Truth = Truth true
value_of round kind.Point = Shape (At (beside round 0 0))
value_of round kind.Line = Shape (Along (diagonal round))
value_of round kind.Polygon = Shape (Over (area_of round))

abbrev pub values_of : Drawn → Option FeatureType → List Value
values_of round None = []
values_of round (Some of_type) = map (λ property. value_of round property.kind) of_type.properties

-- a feature of the round's type, with no number yet
abbrev pub feature_of : Schema → Drawn → Feature
feature_of schema round = record { id = record { kind = round.kind; number = 0 }; values = values_of round (slice_get schema.types round.kind) }

-- ---- requests

abbrev pub transaction : Action → Request
transaction action = Transact None release.Whole (action ∷ [])

-- one feature is inserted
abbrev pub insertion : Schema → Drawn → Request
insertion schema round = transaction (Insert None (feature_of schema round ∷ []))

-- the free features of the type in the square are locked for a second
abbrev pub locking : Drawn → Request
locking round = Lock (Plain (query_in round (square round)) ∷ []) Free 1

-- the features of the type in the surroundings are counted
abbrev pub counting : Drawn → Request
counting round = GetFeatures (record { start = 0; count = None; hits = true; link = None }) (Plain (query_in round (surroundings round)) ∷ [])

-- the features of the type in the square are deleted
abbrev pub deletion : Drawn → Request
deletion round = transaction (Delete round.kind (InBox None (square round)))

-- the requests of a round, of which each fourth one deletes
abbrev pub deletions_of : Drawn → List Request
deletions_of round = if round.number % 4 == 3 then deletion round ∷ [] else []

abbrev pub requests_of : Schema → Drawn → List Request
requests_of schema round = insertion schema round ∷ locking round ∷ counting round ∷ deletions_of round

-- the requests of the first n rounds, in a drill of so many rounds
unfoldable pub requests_before : Schema → (rounds n : ℕ) → List Request
requests_before schema rounds zero = []
requests_before schema rounds (suc n) = requests_before schema rounds n ++ requests_of schema (round_of schema rounds n)

-- all requests of a drill of so many rounds
abbrev pub drill_of : Schema → (rounds : ℕ) → List Request
drill_of schema rounds = requests_before schema rounds rounds
