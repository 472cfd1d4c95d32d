-- Texts and shapes that were written read back.
use Rattle.std.proofs.Common.{◌≡◌, ℕ, ◌+◌, ◌^◌, ◌<◌, ◌≤◌, false, List, [], ◌∷◌, ◌++◌, length, Ok, ℤ, pos, negsuc, refl, ap, ◌∙◌, arith, append_assoc}
use Rattle.std.specs.Prelude.{All, FitsSigned, ◌==◌, ◌-◌}
use Rattle.std.specs.Int.{w32, cast_unsigned}
use Rattle.std.specs.List.{flat_map}
use Rattle.std.specs.Str.{IsUtf8}
use Rattle.std.proofs.lemmas.Str.{is_utf8-from_IsUtf8}
use Rattle.std.proofs.lemmas.Bool.Decides.{nat_tests}
use Rattle.std.proofs.lemmas.Int.{ints, to_z-of_z}
use Rattle.std.proofs.lemmas.List.{map-id, length-append, take_at, drop_at}
use Rattle.std.proofs.lemmas.List.Elements.{All-weaker}
use Rattle.geom_core.specs.Plane.{Point, Area, IsPosition, IsCoordinate}
use Rattle.geom_core.specs.Valid.{IsLineOf, IsRingOf, IsAreaOf}
use Rattle.geom_core.proofs.Valid.{position_is, line_is, ring_is, area_is}
use Rattle.journal_format.specs.Numbers.{be}
use Rattle.journal_format.specs.Reading.{times, counted_at, words_of, words_at, text_at, pair_at, shaped, point_at, line_at, ring_at, rings_at, area_at}
use Rattle.journal_format.specs.Spelling.{text_bytes, counted, point_bytes, path_bytes, area_bytes}
use Rattle.journal_format.proofs.Digits.{number_again, not_less}
use Rattle.journal_format.proofs.Words.{ReadAs}
use Rattle.journal_format.proofs.Again.{times_again, all_again}

-- ---- texts

words_again : (text rest : List ℕ) → IsUtf8 text → words_at (length text) (text ++ rest) ≡ Ok (text, rest)
unfolding words_at words_of
words_again text rest utf8 =
    let long = not_less (length (text ++ rest)) (length text) (omega (arith, length-append text rest)) in
    rw (long, take_at text rest (length text) refl, drop_at text rest (length text) refl, is_utf8-from_IsUtf8 text utf8) refl

pub text_again : (text : List ℕ) → length text ≤ 4_294_967_295 → IsUtf8 text → ReadAs text_at (text_bytes text) text
unfolding text_at text_bytes
text_again text short utf8 = record {
  again = λ rest.
      rw (append_assoc (be 4 (length text)) text rest, number_again 4 (length text) (text ++ rest) (omega arith)) (words_again text rest utf8);
}

-- ---- positions

coordinate_fits : (z : ℤ) → IsCoordinate z → FitsSigned w32 z
coordinate_fits (pos n) h = let to = h.to in record { sfits = omega (arith, ints) }
coordinate_fits (negsuc n) h = let from = h.from in record { sfits = omega (arith, ints) }

-- two's complement of a number of n bytes
pub signed_small : (z : ℤ) → FitsSigned w32 z → cast_unsigned w32 z < 256 ^ 4
signed_small (pos n) f = let small = f.sfits in omega arith
signed_small (negsuc n) f = let small = f.sfits in omega arith

pub point_again : (p : Point) → IsPosition p → ReadAs point_at (point_bytes p) p
unfolding point_at point_bytes pair_at shaped
point_again p h = record {
  again = λ rest.
      let x = coordinate_fits p.x h.x in
      let y = coordinate_fits p.y h.y in
      let fx = be 4 (cast_unsigned w32 p.x) in
      let fy = be 4 (cast_unsigned w32 p.y) in
      rw (
        append_assoc fx fy rest,
        number_again 4 (cast_unsigned w32 p.x) (fy ++ rest) (signed_small p.x x),
        number_again 4 (cast_unsigned w32 p.y) rest (signed_small p.y y),
        to_z-of_z w32 p.x x,
        to_z-of_z w32 p.y y,
        position_is p h,
      ) refl;
}

-- ---- paths

path_again : (path : List Point) → length path ≤ 10_000 → All IsPosition path → ReadAs (counted_at 4 point_at) (path_bytes path) path
unfolding path_bytes
path_again path many h = all_again point_at point_bytes IsPosition point_again 4 path (omega arith) h

pub line_again : (line : List Point) → IsLineOf line → ReadAs line_at (path_bytes line) line
unfolding line_at shaped
line_again line h = record {
  again = λ rest. rw ((path_again line h.line.many h.positions).again rest, line_is line h.line) refl;
}

pub ring_again : (ring : List Point) → IsRingOf ring → ReadAs ring_at (path_bytes ring) ring
unfolding ring_at shaped
ring_again ring h = record {
  again = λ rest. rw ((path_again ring h.ring.many h.positions).again rest, ring_is ring h.ring) refl;
}

-- ---- polygons

rings_again : (area : Area) (behind rest : List ℕ) → IsAreaOf area → ReadAs ring_at (path_bytes area.shell) area.shell → times ring_at (length area.holes) [] behind ≡ Ok (area.holes, rest) → rings_at (length area.holes + 1) (path_bytes area.shell ++ behind) ≡ Ok (area, rest)
unfolding rings_at shaped
rings_again area behind rest h shell holes =
    let some : (length area.holes + 1 == 0) ≡ false = grind (arith, nat_tests) in
    let less : length area.holes + 1 - 1 ≡ length area.holes = omega arith in
    rw (some, less, shell.again behind, holes, area_is area h.area) refl

pub area_again : (area : Area) → length area.holes < 4_294_967_295 → IsAreaOf area → ReadAs area_at (area_bytes area) area
unfolding area_at rings_at area_bytes counted shaped
area_again area few h = record {
  again = λ rest.
      let shell = path_bytes area.shell in
      let holes = flat_map path_bytes area.holes in
      let count : be 4 (length (area.shell ∷ area.holes)) ≡ be 4 (length area.holes + 1) = ap (be 4) (omega arith) in
      let split : (be 4 (length area.holes + 1) ++ (shell ++ holes)) ++ rest ≡ be 4 (length area.holes + 1) ++ (shell ++ (holes ++ rest)) = simp append_assoc in
      let all = times_again ring_at path_bytes (λ r. r) [] area.holes rest (All-weaker IsRingOf (λ r. ReadAs ring_at (path_bytes r) r) ring_again area.holes h.holes) in
      rw (
        count,
        split,
        number_again 4 (length area.holes + 1) (shell ++ (holes ++ rest)) (omega arith),
      ) (rings_again area (holes ++ rest) rest h (ring_again area.shell h.shell) (all ∙ ap (λ l. Ok (l, rest)) (map-id area.holes)));
}
