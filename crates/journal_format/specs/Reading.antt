-- What a body says, or the first fault in reading order.
use Rattle.std.specs.Prelude.{ℕ, ℤ, zero, suc, ◌-◌, Bool, true, false, ◌==◌, nat_lt, if◌then◌else◌, List, [], ◌∷◌, ◌++◌, length, take, drop, Some, None, Result, Ok, Err}
use Rattle.std.specs.Int.{w32, w64, cast_signed}
use Rattle.std.specs.Str.{is_utf8}
use Rattle.geom_core.specs.Plane.{Point, Area}
use Rattle.geom_core.specs.Shapes.{position_of, line_of, ring_of, polygon_of}
use Rattle.geom_core.specs.declared.fault.GeomFault.{GeomFault}
use Rattle.geom_core.specs.declared.geometry.Geometry.TheVariants.{At, Along, Over}
use Rattle.feature_values.specs.declared.feature.Rid.{Rid}
use Rattle.feature_values.specs.declared.value.Value.{Value}
use Rattle.feature_values.specs.declared.value.Value.TheVariants.{Null, Words, Whole, Truth, Shape}
use Rattle.wfs_model.specs.declared.stored.StoredQuery.{StoredQuery}
use Rattle.wfs_model.specs.declared.change.Part.{Part}
use Rattle.wfs_model.specs.declared.change.Part.TheVariants.{Put, Remove}
use Rattle.wfs_model.specs.declared.change.Change.{Change}
use Rattle.wfs_model.specs.declared.change.Change.TheVariants.{Opening, Rows, Created, Dropped, Base}
use Rattle.journal_format.specs.declared.fault.RecordFault.{RecordFault}
use Rattle.journal_format.specs.declared.fault.RecordFault.TheVariants.{Cut, Kind, Trailing}
use Rattle.journal_format.specs.declared.recorded.Recorded.{Recorded}
use Rattle.wfs_ends.specs.Read.{◌>>=◌}
use Rattle.journal_format.specs.Numbers.{Reads, first_of, number_at}

-- so many things, each read behind the one before, put behind those found
unfoldable pub times : {A : Type 0} → (List ℕ → Reads A) → ℕ → List A → List ℕ → Reads (List A)
times read zero found bytes = Ok (found, bytes)
times read (suc n) found bytes = read bytes >>= λ x. times read n (found ++ x.0 ∷ []) x.1

-- some things behind their number, of n bytes
unfoldable pub counted_at : {A : Type 0} → ℕ → (List ℕ → Reads A) → List ℕ → Reads (List A)
counted_at n read bytes = number_at n bytes >>= λ count. times read count.0 [] count.1

-- the text of these bytes
unfoldable pub words_of : List ℕ → Result (List ℕ) RecordFault
words_of bytes = if is_utf8 bytes then Ok bytes else Err Kind

-- a text of n bytes
unfoldable pub words_at : ℕ → List ℕ → Reads (List ℕ)
words_at n bytes = if nat_lt (length bytes) n then Err Cut else (words_of (take n bytes) >>= λ text. Ok (text, drop n bytes))

unfoldable pub text_at : List ℕ → Reads (List ℕ)
text_at bytes = number_at 4 bytes >>= λ size. words_at size.0 size.1

unfoldable pub counter_at : List ℕ → Reads ℕ
counter_at bytes = number_at 8 bytes

-- a shape, and what stands behind it
unfoldable pub shaped : {A : Type 0} → Result A GeomFault → List ℕ → Reads A
shaped (Ok shape) rest = Ok (shape, rest)
shaped (Err fault) rest = Err Kind

-- two coordinates
unfoldable pub pair_at : List ℕ → Reads (ℤ × ℤ)
pair_at bytes = do
  x ← number_at 4 bytes
  y ← number_at 4 x.1
  Ok ((cast_signed w32 x.0, cast_signed w32 y.0), y.1)

unfoldable pub point_at : List ℕ → Reads Point
point_at bytes = pair_at bytes >>= λ pair. shaped (position_of pair.0.0 pair.0.1) pair.1

unfoldable pub line_at : List ℕ → Reads (List Point)
line_at bytes = counted_at 4 point_at bytes >>= λ points. shaped (line_of points.0) points.1

unfoldable pub ring_at : List ℕ → Reads (List Point)
ring_at bytes = counted_at 4 point_at bytes >>= λ points. shaped (ring_of points.0) points.1

-- the shell and the holes, where there are so many rings
unfoldable pub rings_at : ℕ → List ℕ → Reads Area
rings_at count bytes = if count == 0 then Err Kind else do
  shell ← ring_at bytes
  holes ← times ring_at (count - 1) [] shell.1
  shaped (polygon_of shell.0 holes.0) holes.1

unfoldable pub area_at : List ℕ → Reads Area
area_at bytes = number_at 4 bytes >>= λ count. rings_at count.0 count.1

unfoldable pub truth_at : List ℕ → Reads Bool
truth_at bytes = do
  b ← first_of bytes
  if b.0 == 0 then Ok (false, b.1) else if b.0 == 1 then Ok (true, b.1) else Err Kind

unfoldable pub point_value_at : List ℕ → Reads Value
point_value_at bytes = point_at bytes >>= λ x. Ok (Shape (At x.0), x.1)

-- a value behind its kind
unfoldable pub value_of : ℕ → List ℕ → Reads Value
value_of kind bytes =
    if kind == 0 then Ok (Null, bytes)
    else if kind == 1 then (text_at bytes >>= λ x. Ok (Words x.0, x.1))
    else if kind == 2 then (number_at 8 bytes >>= λ x. Ok (Whole (cast_signed w64 x.0), x.1))
    else if kind == 3 then (truth_at bytes >>= λ x. Ok (Truth x.0, x.1))
    else if kind == 4 then point_value_at bytes
    else if kind == 5 then (line_at bytes >>= λ x. Ok (Shape (Along x.0), x.1))
    else if kind == 6 then (area_at bytes >>= λ x. Ok (Shape (Over x.0), x.1))
    else Err Kind

unfoldable pub value_at : List ℕ → Reads Value
value_at bytes = first_of bytes >>= λ kind. value_of kind.0 kind.1

unfoldable pub id_at : List ℕ → Reads Rid
id_at bytes = do
  kind ← number_at 2 bytes
  number ← number_at 8 kind.1
  Ok (record { kind = kind.0; number = number.0 }, number.1)

unfoldable pub put_at : List ℕ → Reads Part
put_at bytes = do
  id ← id_at bytes
  values ← counted_at 2 value_at id.1
  Ok (Put (record { id = id.0; values = values.0 }), values.1)

unfoldable pub remove_at : List ℕ → Reads Part
remove_at bytes = id_at bytes >>= λ id. Ok (Remove id.0, id.1)

unfoldable pub part_of : ℕ → List ℕ → Reads Part
part_of kind bytes = if kind == 1 then put_at bytes else if kind == 2 then remove_at bytes else Err Kind

unfoldable pub part_at : List ℕ → Reads Part
part_at bytes = first_of bytes >>= λ kind. part_of kind.0 kind.1

unfoldable pub stored_at : List ℕ → Reads StoredQuery
stored_at bytes = do
  id ← text_at bytes
  title ← text_at id.1
  parameters ← counted_at 4 text_at title.1
  text ← text_at parameters.1
  Ok (record { id = id.0; title = title.0; parameters = parameters.0; queries = []; text = text.0 }, text.1)

-- a change that comes with no signature
abbrev pub plain : Change → Recorded
plain change = record { change = change; signature = None }

unfoldable pub opening_at : List ℕ → Reads Recorded
opening_at bytes = do
  number ← counter_at bytes
  signature ← text_at number.1
  Ok (record { change = Opening number.0; signature = Some signature.0 }, signature.1)

unfoldable pub base_at : List ℕ → Reads Recorded
base_at bytes = do
  opening ← counter_at bytes
  counters ← counted_at 2 counter_at opening.1
  Ok (plain (Base opening.0 counters.0), counters.1)

-- a change behind its kind
unfoldable pub change_of : ℕ → List ℕ → Reads Recorded
change_of kind bytes =
    if kind == 1 then opening_at bytes
    else if kind == 2 then (counted_at 4 part_at bytes >>= λ x. Ok (plain (Rows x.0), x.1))
    else if kind == 3 then (counted_at 4 stored_at bytes >>= λ x. Ok (plain (Created x.0), x.1))
    else if kind == 4 then (text_at bytes >>= λ x. Ok (plain (Dropped x.0), x.1))
    else if kind == 5 then base_at bytes
    else Err Kind

-- nothing may stand behind the change
unfoldable pub ended : Recorded → List ℕ → Result Recorded RecordFault
ended recorded [] = Ok recorded
ended recorded (b ∷ bytes) = Err Trailing

unfoldable pub record_of : List ℕ → Result Recorded RecordFault
record_of bytes = do
  kind ← first_of bytes
  found ← change_of kind.0 kind.1
  ended found.0 found.1
