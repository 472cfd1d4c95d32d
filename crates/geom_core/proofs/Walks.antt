-- What is known of a path's edges once some of them are passed.
use Rattle.std.proofs.Common.{◌≡◌, ℕ, ◌+◌, ◌<◌, ◌-◌, ◌≤◌, true, false, ◌||◌, length, drop, List, [], ◌∷◌, get_or, refl, arith, ap, ◌∙◌, add-one, drop-cons, cond, eq-eqb, ◌%◌, take}
use Rattle.std.proofs.lemmas.Bool.Decides.{nat_tests}
use Rattle.geom_core.proofs.Boxes.{take_rest}
use Rattle.std.specs.List.{list_any, count_by}
use Rattle.std.proofs.lemmas.List.{drop_all}
use Rattle.std.proofs.lemmas.List.Sums.{sum_by-cons}
use Rattle.geom_core.specs.Plane.{Point}
use Rattle.geom_core.specs.Segments.{is_on}
use Rattle.geom_core.specs.Rings.{edges_from, is_crossed, is_odd, is_on_ring, is_round}
use Rattle.geom_core.specs.Places.{place_among, place_of}
use Rattle.geom_core.specs.declared.placing.Place.{Place}
use Rattle.geom_core.specs.declared.placing.Place.TheVariants.{On, Within, Outside}

-- The first i points of the path are passed, `last` is the one that was passed last, no edge so far holds p,
-- and n of them are crossed: what is to come decides the rest.
pub record Walked (p start : Point) (path : List Point) (last : Point) (i n : ℕ) : Type 0 where
  pub on : list_any (is_on p) (edges_from start path) ≡ list_any (is_on p) (edges_from last (drop i path))
  pub crossed : n + count_by (is_crossed p) (edges_from last (drop i path)) ≡ count_by (is_crossed p) (edges_from start path)

pub Walked-start : (p start : Point) (path : List Point) → Walked p start path start 0 0
Walked-start p start path = record { on = refl; crossed = omega arith }

-- The edge that comes next.
pub edges_from-next : (last next : Point) (path : List Point) (i : ℕ) → i < length path → next ≡ get_or path i next →
    edges_from last (drop i path) ≡ (record { from = last; to = next }) ∷ edges_from next (drop (i + 1) path)
edges_from-next last next path i h e = rw (drop-cons path i next h, ← e, add-one) refl

pub Walked-next : (p start : Point) (path : List Point) (last next : Point) (i n m : ℕ) → i < length path → next ≡ get_or path i next →
    Walked p start path last i n →
    is_on p (record { from = last; to = next }) ≡ false →
    m ≡ n + cond (is_crossed p (record { from = last; to = next })) 1 0 →
    Walked p start path next (i + 1) m
Walked-next p start path last next i n m h e w off more =
    let step = edges_from-next last next path i h e in
    record {
      on = w.on ∙ (ap (list_any (is_on p)) step ∙ ap (λ b. b || list_any (is_on p) (edges_from next (drop (i + 1) path))) off);
      crossed = omega (
        arith,
        w.crossed,
        ap (count_by (is_crossed p)) step,
        sum_by-cons (λ s. cond (is_crossed p s) 1 0) (record { from = last; to = next }) (edges_from next (drop (i + 1) path)),
      );
    }

pub Walked-found : (p start : Point) (path : List Point) (last next : Point) (i n : ℕ) → i < length path → next ≡ get_or path i next →
    Walked p start path last i n →
    is_on p (record { from = last; to = next }) ≡ true →
    list_any (is_on p) (edges_from start path) ≡ true
Walked-found p start path last next i n h e w found =
    w.on ∙ (ap (list_any (is_on p)) (edges_from-next last next path i h e)
    ∙ ap (λ b. b || list_any (is_on p) (edges_from next (drop (i + 1) path))) found)

pub Walked-end : (p start : Point) (path : List Point) (last : Point) (i n : ℕ) → length path ≤ i →
    Walked p start path last i n →
    (list_any (is_on p) (edges_from start path) ≡ false) × (count_by (is_crossed p) (edges_from start path) ≡ n)
Walked-end p start path last i n h w =
    let none : drop i path ≡ [] = drop_all i path h in (
      w.on ∙ ap (λ rest. list_any (is_on p) (edges_from last rest)) none,
      omega (arith, w.crossed, ap (λ rest. count_by (is_crossed p) (edges_from last rest)) none),
    )

-- The answers of a walk.
pub place_on : (p start : Point) (path : List Point) (last next : Point) (i n : ℕ) → i < length path → next ≡ get_or path i next →
    Walked p start path last i n → is_on p (record { from = last; to = next }) ≡ true →
    On ≡ place_among p (edges_from start path)
unfolding place_among
place_on p start path last next i n h e w found = rw (Walked-found p start path last next i n h e w found) refl

pub place_within : (p start : Point) (path : List Point) (last : Point) (i n : ℕ) → length path ≤ i →
    Walked p start path last i n → n % 2 ≡ 1 → Within ≡ place_among p (edges_from start path)
unfolding place_among
place_within p start path last i n h w odd =
    let e = Walked-end p start path last i n h w in
    rw (e.0, e.1, eq-eqb (n % 2) 1 odd) refl

pub place_outside : (p start : Point) (path : List Point) (last : Point) (i n : ℕ) → length path ≤ i →
    Walked p start path last i n → ¬ (n % 2 ≡ 1) → Outside ≡ place_among p (edges_from start path)
unfolding place_among
place_outside p start path last i n h w even =
    let e = Walked-end p start path last i n h w in
    let no : is_odd n ≡ false = grind (arith, nat_tests) in
    rw (e.0, e.1, no) refl

-- The walk from the first point of a ring through the others.
pub place_of-read : (p : Point) (ring : List Point) (first : Point) (b : Place) → first ≡ get_or ring 0 first → 0 < length ring →
    b ≡ place_among p (edges_from first (take (length ring - 1) (drop 1 ring))) → b ≡ place_of p ring
unfolding place_among place_of is_on_ring is_round
place_of-read p [] first b e h f = absurd (omega arith)
place_of-read p (q ∷ qs) first b e h f = rw (f, take_rest q qs, e) refl
