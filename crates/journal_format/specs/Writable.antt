-- What a change is whose numbers, texts and shapes are such as the types of the program hold.
use Rattle.std.specs.Prelude.{ℕ, ◌≤◌, ⊤, List, All, FitsSigned}
use Rattle.std.specs.Int.{w64}
use Rattle.std.specs.Str.{IsUtf8}
use Rattle.wfs_ends.specs.Ends.{last_count}
use Rattle.geom_core.specs.Valid.{IsGeometry}
use Rattle.feature_values.specs.declared.feature.Rid.{Rid}
use Rattle.feature_values.specs.declared.value.Value.{Value}
use Rattle.feature_values.specs.declared.value.Value.TheVariants.{Null, Words, Whole, Truth, Shape}
use Rattle.wfs_model.specs.declared.stored.StoredQuery.{StoredQuery}
use Rattle.wfs_model.specs.declared.change.Part.{Part}
use Rattle.wfs_model.specs.declared.change.Part.TheVariants.{Put, Remove}
use Rattle.wfs_model.specs.declared.change.Change.{Change}
use Rattle.wfs_model.specs.declared.change.Change.TheVariants.{Opening, Rows, Created, Dropped, Base}

-- a number of 64 bits
abbrev pub IsCounter : ℕ → Type 0
IsCounter n = n ≤ last_count

-- a text is in UTF-8, a whole number has 64 bits, a shape is valid
abbrev pub IsValue : Value → Type 0
IsValue Null = ⊤
IsValue (Words text) = IsUtf8 text
IsValue (Whole number) = FitsSigned w64 number
IsValue (Truth b) = ⊤
IsValue (Shape shape) = IsGeometry shape

-- the number of an identifier has 64 bits; its type is bounded by the bytes that it has
abbrev pub IsId : Rid → Type 0
IsId id = IsCounter id.number

-- a feature that stands, with its values, or the identifier of one that goes
abbrev pub IsPart : Part → Type 0
IsPart (Put feature) = IsId feature.id × All IsValue feature.values
IsPart (Remove id) = IsId id

-- texts in UTF-8; what the query asks is not written
pub record IsStored (query : StoredQuery) : Type 0 where
  pub id : IsUtf8 query.id
  pub title : IsUtf8 query.title
  pub parameters : All IsUtf8 query.parameters
  pub text : IsUtf8 query.text

-- what every change of the program is, and the schema's signature where it is written
abbrev pub IsWritable : Change → List ℕ → Type 0
IsWritable (Opening number) signature = IsCounter number × IsUtf8 signature
IsWritable (Rows parts) signature = All IsPart parts
IsWritable (Created queries) signature = All IsStored queries
IsWritable (Dropped id) signature = IsUtf8 id
IsWritable (Base opening counters) signature = IsCounter opening × All IsCounter counters
