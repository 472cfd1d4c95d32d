-- What was written reads back: values, parts, stored queries and changes.
use Rattle.std.proofs.Common.{◌≡◌, ℕ, ◌+◌, ◌^◌, ◌<◌, ◌≤◌, true, false, List, [], ◌∷◌, ◌++◌, length, map, Ok, ℤ, pos, negsuc, refl, sym, ap, ◌∙◌, arith, append_assoc}
use Rattle.std.specs.Prelude.{All, FitsSigned}
use Rattle.std.specs.Int.{w64, cast_unsigned}
use Rattle.std.specs.List.{flat_map}
use Rattle.std.specs.Str.{IsUtf8}
use Rattle.std.proofs.lemmas.Int.{to_z-of_z}
use Rattle.std.proofs.lemmas.List.{append-nil, length-append}
use Rattle.std.proofs.lemmas.List.Elements.{All-cons, All-nil}
use Rattle.geom_core.specs.Plane.{Point, Area}
use Rattle.geom_core.specs.Valid.{IsAreaOf}
use Rattle.geom_core.specs.declared.geometry.Geometry.TheVariants.{At, Along, Over}
use Rattle.feature_values.specs.declared.feature.Rid.{Rid}
use Rattle.feature_values.specs.declared.value.Value.{Value}
use Rattle.feature_values.specs.declared.value.Value.TheVariants.{Null, Words, Whole, Truth, Shape}
use Rattle.wfs_model.specs.declared.stored.StoredQuery.{StoredQuery}
use Rattle.wfs_model.specs.declared.change.Part.{Part}
use Rattle.wfs_model.specs.declared.change.Part.TheVariants.{Put, Remove}
use Rattle.wfs_model.specs.declared.change.Change.TheVariants.{Opening, Rows, Created, Dropped, Base}
use Rattle.journal_format.specs.Numbers.{Reads, be, first_of}
use Rattle.journal_format.specs.Reading.{counted_at, text_at, counter_at, area_at, truth_at, point_value_at, value_of, value_at, id_at, put_at, remove_at, part_of, part_at, stored_at, opening_at, base_at, change_of, ended, record_of}
use Rattle.journal_format.specs.Spelling.{text_bytes, counted, counter_bytes, path_bytes, area_bytes, truth_bytes, value_bytes, id_bytes, part_bytes, stored_bytes, body_of, IsShort}
use Rattle.journal_format.specs.Writable.{IsCounter, IsValue, IsId, IsPart, IsStored}
use Rattle.journal_format.specs.RoundTrip.{bare, ReadsBack}
use Rattle.journal_format.proofs.Digits.{number_again}
use Rattle.journal_format.proofs.Words.{ReadAs}
use Rattle.journal_format.proofs.Again.{counted_again, all_again}
use Rattle.journal_format.proofs.Geometries.{text_again, point_again, line_again, area_again}
use Rattle.journal_format.proofs.Writes.{length_text, length_of_counted, length_path, length_area}

-- ---- lists of which each has some bytes

module _ {A : Type 0} (spelling : A → List ℕ) where
  -- no piece is longer than all of them
  pub pieces_short : (most : ℕ) (xs : List A) → length (flat_map spelling xs) ≤ most → All (λ x. length (spelling x) ≤ most) xs
  pieces_short most [] le = All-nil (λ x. length (spelling x) ≤ most)
  pieces_short most (x ∷ xs) le =
      let both = length-append (spelling x) (flat_map spelling xs) in
      All-cons (λ y. length (spelling y) ≤ most) x xs (omega arith) (pieces_short most xs (omega arith))

  -- there are no more pieces than bytes
  pub pieces_few : ((x : A) → 1 ≤ length (spelling x)) → (xs : List A) → length xs ≤ length (flat_map spelling xs)
  pieces_few some [] = omega arith
  pieces_few some (x ∷ xs) =
      let both = length-append (spelling x) (flat_map spelling xs) in
      let one = some x in
      let rest = pieces_few some xs in
      omega arith

module _ {A : Type 0} (P Q : A → Type 0) where
  pub both_hold : (xs : List A) → All P xs → All Q xs → All (λ x. P x × Q x) xs
  both_hold xs p q = λ k d lt. (p k d lt, q k d lt)

-- ---- numbers

counter_again : (n : ℕ) → IsCounter n → ReadAs counter_at (counter_bytes n) n
unfolding counter_at counter_bytes
counter_again n h = record { again = λ rest. number_again 8 n rest (omega arith) }

id_again : (id : Rid) → id.kind ≤ 65_535 → IsId id → ReadAs id_at (id_bytes id) id
unfolding id_at id_bytes
id_again id short h = record {
  again = λ rest.
      rw (
        append_assoc (be 2 id.kind) (be 8 id.number) rest,
        number_again 2 id.kind (be 8 id.number ++ rest) (omega arith),
        number_again 8 id.number rest (omega arith),
      ) refl;
}

-- ---- texts and values

-- a text among bytes whose number stands in four bytes
text_within : (text : List ℕ) → length (text_bytes text) ≤ 4_294_967_295 → IsUtf8 text → ReadAs text_at (text_bytes text) text
text_within text le h = let size = length_text text in text_again text (omega arith) h

some_text : (text : List ℕ) → 1 ≤ length (text_bytes text)
some_text text = let size = length_text text in omega arith

whole_small : (z : ℤ) → FitsSigned w64 z → cast_unsigned w64 z < 256 ^ 8
whole_small (pos n) f = let small = f.sfits in omega arith
whole_small (negsuc n) f = let small = f.sfits in omega arith

some_path : (path : List Point) → 1 ≤ length (path_bytes path)
some_path path = let size = length_path path in omega arith

area_within : (area : Area) → length (area_bytes area) ≤ 4_294_967_295 → IsAreaOf area → ReadAs area_at (area_bytes area) area
area_within area le h =
    let size = length_area area in
    let few = pieces_few path_bytes some_path area.holes in
    area_again area (omega arith) h

value_again : (v : Value) → length (value_bytes v) ≤ 4_294_967_295 → IsValue v → ReadAs value_at (value_bytes v) v
unfolding value_at first_of value_of value_bytes truth_at truth_bytes point_value_at
value_again Null le h = record { again = λ rest. refl }
value_again (Words text) le h = record { again = λ rest. rw ((text_within text (omega arith) h).again rest) refl }
value_again (Whole number) le h = record { again = λ rest. rw (number_again 8 (cast_unsigned w64 number) rest (whole_small number h), to_z-of_z w64 number h) refl }
value_again (Truth true) le h = record { again = λ rest. refl }
value_again (Truth false) le h = record { again = λ rest. refl }
value_again (Shape (At p)) le h = record { again = λ rest. rw ((point_again p h).again rest) refl }
value_again (Shape (Along line)) le h = record { again = λ rest. rw ((line_again line h).again rest) refl }
value_again (Shape (Over area)) le h = record { again = λ rest. rw ((area_within area (omega arith) h).again rest) refl }

-- ---- parts

values_again : (values : List Value) → length values ≤ 65_535 → length (counted 2 value_bytes values) ≤ 4_294_967_295 → All IsValue values → ReadAs (counted_at 2 value_at) (counted 2 value_bytes values) values
values_again values few le h =
    let size = length_of_counted 2 value_bytes values in
    all_again value_at value_bytes (λ v. (length (value_bytes v) ≤ 4_294_967_295) × IsValue v) (λ v both. value_again v both.0 both.1) 2 values (omega arith)
    (both_hold (λ v. length (value_bytes v) ≤ 4_294_967_295) IsValue values (pieces_short value_bytes 4_294_967_295 values (omega arith)) h)

part_again : (p : Part) → length (part_bytes p) ≤ 4_294_967_295 → IsShort p → IsPart p → ReadAs part_at (part_bytes p) p
unfolding part_at part_of first_of put_at remove_at part_bytes
part_again (Put feature) le short h =
    let both = length-append (id_bytes feature.id) (counted 2 value_bytes feature.values) in
    let values = values_again feature.values short.1 (omega arith) h.1 in
    record {
      again = λ rest.
          rw (
            append_assoc (id_bytes feature.id) (counted 2 value_bytes feature.values) rest,
            (id_again feature.id short.0 h.0).again (counted 2 value_bytes feature.values ++ rest),
            values.again rest,
          ) refl;
    }
part_again (Remove id) le short h = record { again = λ rest. rw ((id_again id short h).again rest) refl }

some_part : (p : Part) → 1 ≤ length (part_bytes p)
unfolding part_bytes
some_part (Put feature) = omega arith
some_part (Remove id) = omega arith

parts_again : (parts : List Part) → length (counted 4 part_bytes parts) ≤ 4_294_967_295 → All IsShort parts → All IsPart parts → ReadAs (counted_at 4 part_at) (counted 4 part_bytes parts) parts
parts_again parts le short h =
    let size = length_of_counted 4 part_bytes parts in
    let few = pieces_few part_bytes some_part parts in
    all_again part_at part_bytes (λ p. (length (part_bytes p) ≤ 4_294_967_295) × (IsShort p × IsPart p)) (λ p all. part_again p all.0 all.1.0 all.1.1) 4 parts (omega arith)
    (both_hold (λ p. length (part_bytes p) ≤ 4_294_967_295) (λ p. IsShort p × IsPart p) parts (pieces_short part_bytes 4_294_967_295 parts (omega arith)) (both_hold IsShort IsPart parts short h))

-- ---- stored queries

names_again : (names : List (List ℕ)) → length (counted 4 text_bytes names) ≤ 4_294_967_295 → All IsUtf8 names → ReadAs (counted_at 4 text_at) (counted 4 text_bytes names) names
names_again names le h =
    let size = length_of_counted 4 text_bytes names in
    let few = pieces_few text_bytes some_text names in
    all_again text_at text_bytes (λ text. (length (text_bytes text) ≤ 4_294_967_295) × IsUtf8 text) (λ text both. text_within text both.0 both.1) 4 names (omega arith)
    (both_hold (λ text. length (text_bytes text) ≤ 4_294_967_295) IsUtf8 names (pieces_short text_bytes 4_294_967_295 names (omega arith)) h)

length_stored : (query : StoredQuery) → length (stored_bytes query) ≡ length (text_bytes query.id) + (length (text_bytes query.title) + (length (counted 4 text_bytes query.parameters) + length (text_bytes query.text)))
unfolding stored_bytes
length_stored query =
    let id = text_bytes query.id in
    let title = text_bytes query.title in
    let names = counted 4 text_bytes query.parameters in
    let text = text_bytes query.text in
    length-append (id ++ title ++ names) text ∙ rw (length-append (id ++ title) names, length-append id title) (omega arith)

stored_again : (query : StoredQuery) → length (stored_bytes query) ≤ 4_294_967_295 → IsStored query → ReadAs stored_at (stored_bytes query) (bare query)
unfolding stored_at stored_bytes
stored_again query le h =
    let id = text_bytes query.id in
    let title = text_bytes query.title in
    let names = counted 4 text_bytes query.parameters in
    let text = text_bytes query.text in
    let size = length_stored query in
    record {
      again = λ rest.
          let split : id ++ title ++ names ++ text ++ rest ≡ id ++ (title ++ (names ++ (text ++ rest))) = simp append_assoc in
          rw (
            split,
            (text_within query.id (omega arith) h.id).again (title ++ (names ++ (text ++ rest))),
            (text_within query.title (omega arith) h.title).again (names ++ (text ++ rest)),
            (names_again query.parameters (omega arith) h.parameters).again (text ++ rest),
            (text_within query.text (omega arith) h.text).again rest,
          ) refl;
    }

some_stored : (query : StoredQuery) → 1 ≤ length (stored_bytes query)
some_stored query =
    let size = length_stored query in
    let some = some_text query.id in
    omega arith

all_stored_again : (queries : List StoredQuery) → length (counted 4 stored_bytes queries) ≤ 4_294_967_295 → All IsStored queries → ReadAs (counted_at 4 stored_at) (counted 4 stored_bytes queries) (map bare queries)
all_stored_again queries le h =
    let size = length_of_counted 4 stored_bytes queries in
    let few = pieces_few stored_bytes some_stored queries in
    counted_again stored_at stored_bytes bare 4 queries (omega arith)
    (λ k d lt. stored_again _ (pieces_short stored_bytes 4_294_967_295 queries (omega arith) k d lt) (h k d lt))

-- ---- changes

counters_again : (counters : List ℕ) → length counters ≤ 65_535 → All IsCounter counters → ReadAs (counted_at 2 counter_at) (counted 2 counter_bytes counters) counters
counters_again counters few h = all_again counter_at counter_bytes IsCounter counter_again 2 counters (omega arith) h

-- with nothing behind it
alone : {A : Type 0} (read : List ℕ → Reads A) (bytes : List ℕ) (x : A) → ReadAs read bytes x → read bytes ≡ Ok (x, [])
alone read bytes x h = ap read (sym (append-nil bytes)) ∙ h.again []

pub reads_back : ReadsBack
unfolding record_of change_of opening_at base_at ended first_of body_of
reads_back (Opening number) signature spelled h =
    let le = spelled.long in
    let both = length-append (counter_bytes number) (text_bytes signature) in
    let text = alone text_at (text_bytes signature) signature (text_within signature (omega arith) h.1) in
    rw ((counter_again number h.0).again (text_bytes signature), text) refl
reads_back (Rows parts) signature spelled h =
    let le = spelled.long in
    rw (alone (counted_at 4 part_at) (counted 4 part_bytes parts) parts (parts_again parts (omega arith) spelled.short h)) refl
reads_back (Created queries) signature spelled h =
    let le = spelled.long in
    rw (alone (counted_at 4 stored_at) (counted 4 stored_bytes queries) (map bare queries) (all_stored_again queries (omega arith) h)) refl
reads_back (Dropped id) signature spelled h =
    let le = spelled.long in
    rw (alone text_at (text_bytes id) id (text_within id (omega arith) h)) refl
reads_back (Base opening counters) signature spelled h =
    let list = alone (counted_at 2 counter_at) (counted 2 counter_bytes counters) counters (counters_again counters spelled.short h.1) in
    rw ((counter_again opening h.0).again (counted 2 counter_bytes counters), list) refl
