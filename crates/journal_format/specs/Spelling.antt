-- The one spelling of each change as the body of a record.
use Rattle.std.specs.Prelude.{ℕ, Bool, if◌then◌else◌, ◌≤◌, ⊤, List, [], ◌∷◌, ◌++◌, length}
use Rattle.std.specs.List.{flat_map, All}
use Rattle.std.specs.Int.{w32, w64, cast_unsigned}
use Rattle.geom_core.specs.Plane.{Point, Area}
use Rattle.geom_core.specs.declared.geometry.Geometry.TheVariants.{At, Along, Over}
use Rattle.feature_values.specs.declared.feature.Rid.{Rid}
use Rattle.feature_values.specs.declared.value.Value.{Value}
use Rattle.feature_values.specs.declared.value.Value.TheVariants.{Null, Words, Whole, Truth, Shape}
use Rattle.wfs_model.specs.declared.stored.StoredQuery.{StoredQuery}
use Rattle.wfs_model.specs.declared.change.Part.{Part}
use Rattle.wfs_model.specs.declared.change.Part.TheVariants.{Put, Remove}
use Rattle.wfs_model.specs.declared.change.Change.{Change}
use Rattle.wfs_model.specs.declared.change.Change.TheVariants.{Opening, Rows, Created, Dropped, Base}
use Rattle.journal_format.specs.Numbers.{be}

-- a text behind its length
unfoldable pub text_bytes : List ℕ → List ℕ
text_bytes text = be 4 (length text) ++ text

-- some things behind their number, of n bytes
unfoldable pub counted : {A : Type 0} → ℕ → (A → List ℕ) → List A → List ℕ
counted n spelling xs = be n (length xs) ++ flat_map spelling xs

-- the number of an opening, and a counter
unfoldable pub counter_bytes : ℕ → List ℕ
counter_bytes number = be 8 number

unfoldable pub point_bytes : Point → List ℕ
point_bytes p = be 4 (cast_unsigned w32 p.x) ++ be 4 (cast_unsigned w32 p.y)

unfoldable pub path_bytes : List Point → List ℕ
path_bytes points = counted 4 point_bytes points

-- the rings, the shell first
unfoldable pub area_bytes : Area → List ℕ
area_bytes area = counted 4 path_bytes (area.shell ∷ area.holes)

unfoldable pub truth_bytes : Bool → List ℕ
truth_bytes b = (if b then 1 else 0) ∷ []

unfoldable pub value_bytes : Value → List ℕ
value_bytes Null = 0 ∷ []
value_bytes (Words text) = 1 ∷ text_bytes text
value_bytes (Whole number) = 2 ∷ be 8 (cast_unsigned w64 number)
value_bytes (Truth b) = 3 ∷ truth_bytes b
value_bytes (Shape (At p)) = 4 ∷ point_bytes p
value_bytes (Shape (Along line)) = 5 ∷ path_bytes line
value_bytes (Shape (Over area)) = 6 ∷ area_bytes area

unfoldable pub id_bytes : Rid → List ℕ
id_bytes id = be 2 id.kind ++ be 8 id.number

unfoldable pub part_bytes : Part → List ℕ
part_bytes (Put feature) = 1 ∷ id_bytes feature.id ++ counted 2 value_bytes feature.values
part_bytes (Remove id) = 2 ∷ id_bytes id

-- a stored query; what it asks is told by its text
unfoldable pub stored_bytes : StoredQuery → List ℕ
stored_bytes query = text_bytes query.id ++ text_bytes query.title ++ counted 4 text_bytes query.parameters ++ text_bytes query.text

-- the body of a change, by its first byte; the signature of the schema stands in an opening alone
unfoldable pub body_of : Change → List ℕ → List ℕ
body_of (Opening number) signature = 1 ∷ counter_bytes number ++ text_bytes signature
body_of (Rows parts) signature = 2 ∷ counted 4 part_bytes parts
body_of (Created queries) signature = 3 ∷ counted 4 stored_bytes queries
body_of (Dropped id) signature = 4 ∷ text_bytes id
body_of (Base opening counters) signature = 5 ∷ counter_bytes opening ++ counted 2 counter_bytes counters

-- the numbers of a change that stand in two bytes
abbrev pub IsShort : Part → Type 0
IsShort (Put feature) = (feature.id.kind ≤ 65_535) × (length feature.values ≤ 65_535)
IsShort (Remove id) = id.kind ≤ 65_535

abbrev pub AreShort : Change → Type 0
AreShort (Opening number) = ⊤
AreShort (Rows parts) = All IsShort parts
AreShort (Created queries) = ⊤
AreShort (Dropped id) = ⊤
AreShort (Base opening counters) = length counters ≤ 65_535

-- a change whose numbers stand in the bytes that they have
pub record IsSpelled (change : Change) (signature : List ℕ) : Type 0 where
  pub long : length (body_of change signature) ≤ 4_294_967_295
  pub short : AreShort change
