-- From places in rings to the area.
use Rattle.std.proofs.Common.{◌≡◌, ℕ, ◌+◌, ◌<◌, Bool, true, false, not, ◌||◌, ◌&&◌, length, take, List, get_or, refl, ap, ◌∙◌, sym, add-one}
use Rattle.std.specs.List.{list_any}
use Rattle.std.proofs.lemmas.List.Folds.{list_any-append, list_any_at}
use Rattle.std.proofs.Math.Seq.{take-suc}
use Rattle.geom_core.specs.Plane.{Point, Area}
use Rattle.geom_core.specs.Rings.{is_on_ring, is_round, is_strictly_within, is_in_area}
use Rattle.geom_core.specs.Places.{placed, place_of, place_in_holes, area_holds}
use Rattle.geom_core.specs.declared.placing.Place.{Place}
use Rattle.geom_core.specs.declared.placing.Place.TheVariants.{On, Within, Outside}

placed-on : (on within : Bool) → On ≡ placed on within → on ≡ true
placed-on true within e = refl
placed-on false true e = cc
placed-on false false e = cc

pub placed-within : (on within : Bool) → Within ≡ placed on within → (on ≡ false) × (within ≡ true)
placed-within true within e = cc
placed-within false true e = (refl, refl)
placed-within false false e = cc

pub placed-outside : (on within : Bool) → Outside ≡ placed on within → (on ≡ false) × (within ≡ false)
placed-outside true within e = cc
placed-outside false true e = cc
placed-outside false false e = (refl, refl)

-- What a ring's place tells of its tests.
pub on-is : (p : Point) (ring : List Point) → On ≡ place_of p ring → is_on_ring p ring ≡ true
unfolding place_of
on-is p ring e = placed-on (is_on_ring p ring) (is_round p ring) e

pub within-is : (p : Point) (ring : List Point) → Within ≡ place_of p ring → (is_on_ring p ring ≡ false) × (is_strictly_within p ring ≡ true)
unfolding place_of is_strictly_within
within-is p ring e = let h = placed-within (is_on_ring p ring) (is_round p ring) e in (h.0, rw (h.0, h.1) refl)

pub outside-is : (p : Point) (ring : List Point) → Outside ≡ place_of p ring → (is_on_ring p ring ≡ false) × (is_strictly_within p ring ≡ false)
unfolding place_of is_strictly_within
outside-is p ring e = let h = placed-outside (is_on_ring p ring) (is_round p ring) e in (h.0, rw (h.0, h.1) refl)

list_any-next : (f : List Point → Bool) (holes : List (List Point)) (i : ℕ) (hole : List Point) → i < length holes → hole ≡ get_or holes i hole →
    list_any f (take (i + 1) holes) ≡ (list_any f (take i holes) || (f hole || false))
list_any-next f holes i hole h e = rw (add-one, take-suc holes i hole h, ← e, list_any-append) refl

-- The first i holes are passed, and p is on none of their rings.
pub record HolesPassed (p : Point) (holes : List (List Point)) (i : ℕ) (place : Place) : Type 0 where
  pub off : list_any (is_on_ring p) (take i holes) ≡ false
  pub so_far : place ≡ place_in_holes p (take i holes)

pub HolesPassed-start : (p : Point) (holes : List (List Point)) → HolesPassed p holes 0 Outside
unfolding place_in_holes
HolesPassed-start p holes = record { off = refl; so_far = refl }

pub holes_on : (p : Point) (holes : List (List Point)) (i : ℕ) (hole : List Point) → i < length holes → hole ≡ get_or holes i hole →
    On ≡ place_of p hole → On ≡ place_in_holes p holes
unfolding place_in_holes
holes_on p holes i hole h e on =
    let found : is_on_ring p (get_or holes i hole) ≡ true = ap (is_on_ring p) (sym e) ∙ on-is p hole on in
    rw (list_any_at (is_on_ring p) holes i hole h found) refl

or_true : (a : Bool) → (a || (true || false)) ≡ true
or_true true = refl
or_true false = refl

or_false : (a : Bool) → (a || (false || false)) ≡ a
or_false true = refl
or_false false = refl

pub HolesPassed-within : (p : Point) (holes : List (List Point)) (i : ℕ) (place : Place) (hole : List Point) → i < length holes → hole ≡ get_or holes i hole →
    HolesPassed p holes i place → Within ≡ place_of p hole → HolesPassed p holes (i + 1) Within
unfolding place_in_holes
HolesPassed-within p holes i place hole h e w within =
    let is = within-is p hole within in
    let off : list_any (is_on_ring p) (take (i + 1) holes) ≡ false = list_any-next (is_on_ring p) holes i hole h e ∙ rw (w.off, is.0) refl in
    let yes : list_any (is_strictly_within p) (take (i + 1) holes) ≡ true =
    list_any-next (is_strictly_within p) holes i hole h e ∙ rw is.1 (or_true (list_any (is_strictly_within p) (take i holes))) in
    record { off = off; so_far = rw (off, yes) refl }

pub HolesPassed-outside : (p : Point) (holes : List (List Point)) (i : ℕ) (place : Place) (hole : List Point) → i < length holes → hole ≡ get_or holes i hole →
    HolesPassed p holes i place → Outside ≡ place_of p hole → HolesPassed p holes (i + 1) place
unfolding place_in_holes
HolesPassed-outside p holes i place hole h e w outside =
    let is = outside-is p hole outside in
    let off : list_any (is_on_ring p) (take (i + 1) holes) ≡ false = list_any-next (is_on_ring p) holes i hole h e ∙ rw (w.off, is.0) refl in
    let same : list_any (is_strictly_within p) (take (i + 1) holes) ≡ list_any (is_strictly_within p) (take i holes) =
    list_any-next (is_strictly_within p) holes i hole h e ∙ rw is.1 (or_false (list_any (is_strictly_within p) (take i holes))) in
    record { off = off; so_far = w.so_far ∙ rw (off, w.off, same) refl }

area_tests : (on round on_hole in_hole : Bool) →
    ((on || on_hole) || (round && not in_hole)) ≡ area_holds (placed on round) (placed on_hole in_hole)
area_tests true _ _ _ = refl
area_tests false true true true = refl
area_tests false true true false = refl
area_tests false true false true = refl
area_tests false true false false = refl
area_tests false false true true = refl
area_tests false false true false = refl
area_tests false false false true = refl
area_tests false false false false = refl

pub area-is : (p : Point) (area : Area) → area_holds (place_of p area.shell) (place_in_holes p area.holes) ≡ is_in_area p area
unfolding place_of place_in_holes is_in_area
area-is p area = sym (area_tests (is_on_ring p area.shell) (is_round p area.shell) (list_any (is_on_ring p) area.holes) (list_any (is_strictly_within p) area.holes))
