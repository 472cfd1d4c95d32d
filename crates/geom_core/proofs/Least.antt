-- The least box of a list of points holds each of them, and each of its sides is touched.
use Rattle.std.proofs.Common.{◌≡◌, suc, ◌<◌, ℤ, true, not, ◌&&◌, ◌||◌, ◌⊎◌, inl, inr, length, List, [], ◌∷◌, ◌++◌, ◌∙◌, sym, refl, arith, length-append}
use Rattle.std.proofs.lemmas.Int.{ints, clamps, by_lt_z}
use Rattle.std.proofs.lemmas.List.{get_or_append_left}
use Rattle.std.proofs.lemmas.List.Elements.{All-from_recursion}
use Rattle.std.specs.List.{fold, Any, AllByRecursion, flat_map, list_all, list_any}
use Rattle.std.specs.Int.{int_min, int_max}
use Rattle.geom_core.specs.Plane.{Point, Bounds, Area, box_at, grown, least_box, IsInBox}
use Rattle.geom_core.specs.Rings.{is_on_ring, is_round, is_within, is_strictly_within, is_in_area}
use Rattle.geom_core.specs.Shapes.{is_closed, is_hole_within, are_holes_within}
use Rattle.geom_core.specs.Extents.{IsLeastBox, positions_of_area}
use Rattle.geom_core.proofs.Both.{both, either, or_left, or_right}
use Rattle.geom_core.proofs.Enclosed.{within_in_box, on_in_box}

grown-keeps : (q p : Point) (b : Bounds) → IsInBox q b → IsInBox q (grown b p)
grown-keeps q p b i = record { from_x = omega (arith, ints, clamps); to_x = omega (arith, ints, clamps); from_y = omega (arith, ints, clamps); to_y = omega (arith, ints, clamps) }

grown-holds : (p : Point) (b : Bounds) → IsInBox p (grown b p)
grown-holds p b = record { from_x = omega (arith, ints, clamps); to_x = omega (arith, ints, clamps); from_y = omega (arith, ints, clamps); to_y = omega (arith, ints, clamps) }

at-holds : (p : Point) → IsInBox p (box_at p)
at-holds p = record { from_x = omega (arith, ints); to_x = omega (arith, ints); from_y = omega (arith, ints); to_y = omega (arith, ints) }

fold-keeps : (q : Point) (b : Bounds) (ps : List Point) → IsInBox q b → IsInBox q (fold grown b ps)
fold-keeps q b [] i = i
fold-keeps q b (p ∷ ps) i = fold-keeps q (grown b p) ps (grown-keeps q p b i)

fold-holds : (b : Bounds) (ps : List Point) → AllByRecursion (λ q. IsInBox q (fold grown b ps)) ps
fold-holds b [] = tt
fold-holds b (p ∷ ps) = (fold-keeps p (grown b p) ps (grown-holds p b), fold-holds (grown b p) ps)

pub least-holds : (ps : List Point) → AllByRecursion (λ q. IsInBox q (least_box ps)) ps
least-holds [] = tt
least-holds (p ∷ ps) = (fold-keeps p (box_at p) ps (at-holds p), fold-holds (box_at p) ps)

-- A point of a list, at its head or later.
Any-here : (P : Point → Type 0) (p : Point) (ps : List Point) → P p → Any P (p ∷ ps)
Any-here P p ps h = (0, p, omega arith, refl, h)

Any-there : (P : Point → Type 0) (p : Point) (ps : List Point) → Any P ps → Any P (p ∷ ps)
Any-there P p ps a = (suc a.0, a.1, (let k = a.2 in omega arith), a.3, a.4)

-- Each side of a grown box is a side of the box that it grew from, or touched by a point.
fold-touch : (side : Bounds → ℤ) (along : Point → ℤ) → ((b : Bounds) (q : Point) → (side (grown b q) ≡ side b) ⊎ (along q ≡ side (grown b q))) →
    (b : Bounds) (ps : List Point) → (side (fold grown b ps) ≡ side b) ⊎ Any (λ q. along q ≡ side (fold grown b ps)) ps
fold-touch side along step b [] = inl refl
fold-touch side along step b (p ∷ ps) = elim (fold-touch side along step (grown b p) ps) [
  | inr later ↦ inr (Any-there (λ q. along q ≡ side (fold grown (grown b p) ps)) p ps later)
  | inl same ↦ elim (step b p) [
    | inl kept ↦ inl (same ∙ kept)
    | inr here ↦ inr (Any-here (λ q. along q ≡ side (fold grown (grown b p) ps)) p ps (here ∙ sym same))
  ]
]

least-touch : (side : Bounds → ℤ) (along : Point → ℤ) → ((b : Bounds) (q : Point) → (side (grown b q) ≡ side b) ⊎ (along q ≡ side (grown b q))) →
    ((q : Point) → side (box_at q) ≡ along q) → (p : Point) (ps : List Point) → Any (λ q. along q ≡ side (least_box (p ∷ ps))) (p ∷ ps)
least-touch side along step start p ps = elim (fold-touch side along step (box_at p) ps) [
  | inl same ↦ Any-here (λ q. along q ≡ side (fold grown (box_at p) ps)) p ps (sym (same ∙ start p))
  | inr later ↦ Any-there (λ q. along q ≡ side (fold grown (box_at p) ps)) p ps later
]

min-one : (a b : ℤ) → (int_min a b ≡ a) ⊎ (b ≡ int_min a b)
min-one a b = by_lt_z b a (λ h. inr (omega (arith, ints, clamps))) (λ h. inl (omega (arith, ints, clamps)))

max-one : (a b : ℤ) → (int_max a b ≡ a) ⊎ (b ≡ int_max a b)
max-one a b = by_lt_z a b (λ h. inr (omega (arith, ints, clamps))) (λ h. inl (omega (arith, ints, clamps)))

pub IsLeastBox-least : (p : Point) (ps : List Point) → IsLeastBox (least_box (p ∷ ps)) (p ∷ ps)
IsLeastBox-least p ps = record {
  holds = All-from_recursion (λ q. IsInBox q (least_box (p ∷ ps))) (p ∷ ps) (least-holds (p ∷ ps));
  left = least-touch (λ b. b.low.x) (λ q. q.x) (λ b q. min-one b.low.x q.x) (λ q. refl) p ps;
  right = least-touch (λ b. b.high.x) (λ q. q.x) (λ b q. max-one b.high.x q.x) (λ q. refl) p ps;
  bottom = least-touch (λ b. b.low.y) (λ q. q.y) (λ b q. min-one b.low.y q.y) (λ q. refl) p ps;
  top = least-touch (λ b. b.high.y) (λ q. q.y) (λ b q. max-one b.high.y q.y) (λ q. refl) p ps;
}

pub IsLeastBox-some : (ps : List Point) → 0 < length ps → IsLeastBox (least_box ps) ps
IsLeastBox-some [] h = absurd (omega arith)
IsLeastBox-some (p ∷ ps) h = IsLeastBox-least p ps

pub IsLeastBox-at : (p : Point) → IsLeastBox (box_at p) (p ∷ [])
IsLeastBox-at p = IsLeastBox-least p []

-- The holes of a polygon lie in the box of its shell.
hole_in_box : (shell hole : List Point) → is_closed shell ≡ true → is_hole_within shell hole ≡ true → AllByRecursion (λ q. IsInBox q (least_box shell)) hole
hole_in_box shell [] closed h = tt
hole_in_box shell (p ∷ ps) closed h =
    let e = both (is_within p shell) (list_all (λ q. is_within q shell) ps) h in
    (within_in_box p shell (least_box shell) closed (least-holds shell) e.0, hole_in_box shell ps closed e.1)

joined : (P : Point → Type 0) (ps qs : List Point) → AllByRecursion P ps → AllByRecursion P qs → AllByRecursion P (ps ++ qs)
joined P [] qs a b = b
joined P (p ∷ ps) qs a b = (a.0, joined P ps qs a.1 b)

holes_in_box : (shell : List Point) (holes : List (List Point)) → is_closed shell ≡ true → are_holes_within shell holes ≡ true →
    AllByRecursion (λ q. IsInBox q (least_box shell)) (flat_map (λ hole. hole) holes)
holes_in_box shell [] closed h = tt
holes_in_box shell (hole ∷ holes) closed h =
    let e = both (is_hole_within shell hole) (are_holes_within shell holes) h in
    joined (λ q. IsInBox q (least_box shell)) hole (flat_map (λ h. h) holes) (hole_in_box shell hole closed e.0) (holes_in_box shell holes closed e.1)

Any-more : (P : Point → Type 0) (ps qs : List Point) → Any P ps → Any P (ps ++ qs)
Any-more P ps qs a =
    (a.0, a.1, (let k = a.2 in omega (arith, length-append ps qs)), get_or_append_left ps qs a.1 a.0 a.2 ∙ a.3, a.4)

pub IsLeastBox-area : (area : Area) → 0 < length area.shell → is_closed area.shell ≡ true → are_holes_within area.shell area.holes ≡ true →
    IsLeastBox (least_box area.shell) (positions_of_area area)
IsLeastBox-area area some closed h =
    let b = least_box area.shell in
    let least = IsLeastBox-some area.shell some in
    let rest = flat_map (λ (hole : List Point). hole) area.holes in
    record {
      holds = All-from_recursion (λ q. IsInBox q b) (area.shell ++ rest)
          (joined (λ q. IsInBox q b) area.shell rest (least-holds area.shell) (holes_in_box area.shell area.holes closed h));
      left = Any-more (λ q. q.x ≡ b.low.x) area.shell rest least.left;
      right = Any-more (λ q. q.x ≡ b.high.x) area.shell rest least.right;
      bottom = Any-more (λ q. q.y ≡ b.low.y) area.shell rest least.bottom;
      top = Any-more (λ q. q.y ≡ b.high.y) area.shell rest least.top;
    }

-- A point on a ring of the holes lies in a box that holds these.
hole_on : (p : Point) (b : Bounds) (hole : List Point) → AllByRecursion (λ q. IsInBox q b) hole → is_on_ring p hole ≡ true → IsInBox p b
unfolding is_on_ring
hole_on p b [] a h = cc
hole_on p b (q ∷ qs) a h = on_in_box p q qs b a.0 a.1 h

holes_on : (p : Point) (shell : List Point) (holes : List (List Point)) → is_closed shell ≡ true → are_holes_within shell holes ≡ true →
    list_any (is_on_ring p) holes ≡ true → IsInBox p (least_box shell)
holes_on p shell [] closed w h = cc
holes_on p shell (hole ∷ holes) closed w h =
    let e = both (is_hole_within shell hole) (are_holes_within shell holes) w in
    elim (either (is_on_ring p hole) (list_any (is_on_ring p) holes) h) [
      | inl here ↦ hole_on p (least_box shell) hole (hole_in_box shell hole closed e.0) here
      | inr later ↦ holes_on p shell holes closed e.1 later
    ]

-- An area lies in the box of its shell.
pub area_in_box : (p : Point) (area : Area) → is_closed area.shell ≡ true → are_holes_within area.shell area.holes ≡ true →
    is_in_area p area ≡ true → IsInBox p (least_box area.shell)
unfolding is_in_area is_within
area_in_box p area closed w h =
    elim (either (is_on_ring p area.shell || list_any (is_on_ring p) area.holes) (is_round p area.shell && not (list_any (is_strictly_within p) area.holes)) h) [
      | inl on ↦ elim (either (is_on_ring p area.shell) (list_any (is_on_ring p) area.holes) on) [
        | inl shell ↦ within_in_box p area.shell (least_box area.shell) closed (least-holds area.shell) (or_left (is_on_ring p area.shell) (is_round p area.shell) shell)
        | inr hole ↦ holes_on p area.shell area.holes closed w hole
      ]
      | inr round ↦ within_in_box p area.shell (least_box area.shell) closed (least-holds area.shell)
          (or_right (is_on_ring p area.shell) (is_round p area.shell) (both (is_round p area.shell) (not (list_any (is_strictly_within p) area.holes)) round).0)
    ]
