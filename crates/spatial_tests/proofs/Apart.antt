-- Geometries in boxes that are apart share no point.
use Rattle.std.proofs.Common.{◌≡◌, Bool, true, false, ◌&&◌, ◌||◌, int_le, ◌⊎◌, inl, inr, List, [], ◌∷◌, ◌++◌, refl, arith, ap, ◌∙◌, sym}
use Rattle.std.proofs.lemmas.Int.{ints, clamps}
use Rattle.std.proofs.lemmas.List.Elements.{recursion_from_All}
use Rattle.std.specs.List.{list_any, flat_map, AllByRecursion}
use Rattle.geom_core.specs.Plane.{Point, Bounds, IsInBox, IsUpright, are_apart}
use Rattle.geom_core.specs.Segments.{Segment, do_meet}
use Rattle.geom_core.specs.Rings.{edges, edges_from}
use Rattle.geom_core.specs.Extents.{IsLeastBox, positions_of, is_covered}
use Rattle.geom_core.specs.declared.geometry.Geometry.{Geometry}
use Rattle.geom_core.specs.declared.geometry.Geometry.TheVariants.{At, Along, Over}
use Rattle.geom_core.proofs.Both.{both, not_true, or_comm}
use Rattle.geom_core.proofs.Meeting.{box_of_segment, shared, apart-no_meet, IsInBox-from, IsInBox-to, do_meet-symmetric, Way, way, way_back, after_x, after_y, before_x, before_y}
use Rattle.spatial_tests.specs.Sharing.{segments_of, meets_some, do_any_meet, is_first, covers_first, do_intersect, sides, is_in_box, do_meet_box}

-- Both ends of a segment lie in a box.
pub record IsSpanned (b : Bounds) (s : Segment) : Type 0 where
  pub from : IsInBox s.from b
  pub to : IsInBox s.to b

edges_from-in : (b : Bounds) (p : Point) (ps : List Point) → IsInBox p b → AllByRecursion (λ q. IsInBox q b) ps → AllByRecursion (IsSpanned b) (edges_from p ps)
edges_from-in b p [] i a = tt
edges_from-in b p (q ∷ qs) i a = (record { from = i; to = a.0 }, edges_from-in b q qs a.0 a.1)

edges-in : (b : Bounds) (ps : List Point) → AllByRecursion (λ q. IsInBox q b) ps → AllByRecursion (IsSpanned b) (edges ps)
edges-in b [] a = tt
edges-in b (p ∷ ps) a = edges_from-in b p ps a.0 a.1

joined : (P : Segment → Type 0) (ss ts : List Segment) → AllByRecursion P ss → AllByRecursion P ts → AllByRecursion P (ss ++ ts)
joined P [] ts a b = b
joined P (s ∷ ss) ts a b = (a.0, joined P ss ts a.1 b)

front : (P : Point → Type 0) (ps qs : List Point) → AllByRecursion P (ps ++ qs) → AllByRecursion P ps
front P [] qs a = tt
front P (p ∷ ps) qs a = (a.0, front P ps qs a.1)

back : (P : Point → Type 0) (ps qs : List Point) → AllByRecursion P (ps ++ qs) → AllByRecursion P qs
back P [] qs a = a
back P (p ∷ ps) qs a = back P ps qs a.1

rings-in : (b : Bounds) (rings : List (List Point)) → AllByRecursion (λ q. IsInBox q b) (flat_map (λ ring. ring) rings) → AllByRecursion (IsSpanned b) (flat_map edges rings)
rings-in b [] a = tt
rings-in b (ring ∷ rings) a = joined (IsSpanned b) (edges ring) (flat_map edges rings)
    (edges-in b ring (front (λ q. IsInBox q b) ring (flat_map (λ r. r) rings) a))
    (rings-in b rings (back (λ q. IsInBox q b) ring (flat_map (λ r. r) rings) a))

-- So do those of each segment of a geometry, in a box that holds its positions.
pub segments-in : (b : Bounds) (g : Geometry) → AllByRecursion (λ q. IsInBox q b) (positions_of g) → AllByRecursion (IsSpanned b) (segments_of g)
segments-in b (At p) a = (record { from = a.0; to = a.0 }, tt)
segments-in b (Along line) a = edges-in b line a
segments-in b (Over area) a = joined (IsSpanned b) (edges area.shell) (flat_map edges area.holes)
    (edges-in b area.shell (front (λ q. IsInBox q b) area.shell (flat_map (λ r. r) area.holes) a))
    (rings-in b area.holes (back (λ q. IsInBox q b) area.shell (flat_map (λ r. r) area.holes) a))

-- Segments in boxes that are apart do not meet.
parted : (a b : Bounds) (s t : Segment) → Way a b → IsSpanned a s → IsSpanned b t → Way (box_of_segment s) (box_of_segment t)
parted a b s t w i j =
    let i0 = i.from in let i1 = i.to in let j0 = j.from in let j1 = j.to in
    elim w [
      | after_x k ↦ after_x (omega (arith, ints, clamps))
      | after_y k ↦ after_y (omega (arith, ints, clamps))
      | before_x k ↦ before_x (omega (arith, ints, clamps))
      | before_y k ↦ before_y (omega (arith, ints, clamps))
    ]

no_meet : (a b : Bounds) (s t : Segment) → are_apart a b ≡ true → IsSpanned a s → IsSpanned b t → do_meet s t ≡ false
no_meet a b s t h i j =
    apart-no_meet s t (way_back (box_of_segment s) (box_of_segment t) (parted a b s t (way a b h) i j))

pub meets_none : (a b : Bounds) (s : Segment) (ts : List Segment) → are_apart a b ≡ true → IsSpanned a s → AllByRecursion (IsSpanned b) ts → meets_some s ts ≡ false
meets_none a b s [] h i j = refl
meets_none a b s (t ∷ ts) h i j = rw (no_meet a b s t h i j.0, meets_none a b s ts h i j.1) refl

pub none_meet : (a b : Bounds) (ss ts : List Segment) → are_apart a b ≡ true → AllByRecursion (IsSpanned a) ss → AllByRecursion (IsSpanned b) ts → do_any_meet ss ts ≡ false
none_meet a b [] ts h i j = refl
none_meet a b (s ∷ ss) ts h i j = rw (meets_none a b s ts h i.0 j, none_meet a b ss ts h i.1 j) refl

-- A segment whose own box is apart from a geometry's bounds.
pub meets_none_near : (s : Segment) (g : Geometry) (b : Bounds) → IsLeastBox b (positions_of g) → are_apart (box_of_segment s) b ≡ true →
    false ≡ meets_some s (segments_of g)
meets_none_near s g b least h = sym (meets_none (box_of_segment s) b s (segments_of g) h
    (record { from = IsInBox-from s; to = IsInBox-to s })
    (segments-in b g (recursion_from_All (λ q. IsInBox q b) (positions_of g) least.holds)))

Way-flipped : (a b : Bounds) → Way a b → Way b a
Way-flipped a b w = elim w [ after_x k ↦ before_x k | after_y k ↦ before_y k | before_x k ↦ after_x k | before_y k ↦ after_y k ]

low_in : (b : Bounds) → IsUpright b → IsInBox b.low b
low_in b up = record { from_x = omega (arith, ints); to_x = omega (arith, ints); from_y = omega (arith, ints); to_y = omega (arith, ints) }

-- The corners of a box, and so its sides, lie in it.
corner_in : (b : Bounds) (p : Point) → (p.x ≡ b.low.x) ⊎ (p.x ≡ b.high.x) → (p.y ≡ b.low.y) ⊎ (p.y ≡ b.high.y) → IsUpright b → IsInBox p b
corner_in b p (inl e) (inl f) up = record { from_x = omega (arith, ints); to_x = omega (arith, ints); from_y = omega (arith, ints); to_y = omega (arith, ints) }
corner_in b p (inl e) (inr f) up = record { from_x = omega (arith, ints); to_x = omega (arith, ints); from_y = omega (arith, ints); to_y = omega (arith, ints) }
corner_in b p (inr e) (inl f) up = record { from_x = omega (arith, ints); to_x = omega (arith, ints); from_y = omega (arith, ints); to_y = omega (arith, ints) }
corner_in b p (inr e) (inr f) up = record { from_x = omega (arith, ints); to_x = omega (arith, ints); from_y = omega (arith, ints); to_y = omega (arith, ints) }

sides-in : (b : Bounds) → IsUpright b → AllByRecursion (IsSpanned b) (sides b)
sides-in b up =
    let low = corner_in b b.low (inl refl) (inl refl) up in
    let right = corner_in b (record { x = b.high.x; y = b.low.y }) (inr refl) (inl refl) up in
    let high = corner_in b b.high (inr refl) (inr refl) up in
    let left = corner_in b (record { x = b.low.x; y = b.high.y }) (inl refl) (inr refl) up in
    (record { from = low; to = right }, (record { from = right; to = high }, (record { from = high; to = left }, (record { from = left; to = low }, tt))))

in_box_test : (p : Point) (b : Bounds) → is_in_box p b ≡ true → IsInBox p b
in_box_test p b h =
    let e = both (int_le b.low.x p.x && int_le p.x b.high.x) (int_le b.low.y p.y && int_le p.y b.high.y) h in
    let f = both (int_le b.low.x p.x) (int_le p.x b.high.x) e.0 in
    let g = both (int_le b.low.y p.y) (int_le p.y b.high.y) e.1 in
    let f0 = f.0 in let f1 = f.1 in let g0 = g.0 in let g1 = g.1 in
    record { from_x = omega (arith, ints); to_x = omega (arith, ints); from_y = omega (arith, ints); to_y = omega (arith, ints) }

-- The first of some points in a box, which another box covers.
first_out : (test : Point → Bool) (a b : Bounds) (ps : List Point) → are_apart a b ≡ true → ((p : Point) → test p ≡ true → IsInBox p a) →
    AllByRecursion (λ q. IsInBox q b) ps → is_first test ps ≡ false
first_out test a b [] h f i = refl
first_out test a b (p ∷ ps) h f i = not_true (test p) (λ yes. shared p a b (f p yes) i.0 h)

-- Two geometries whose bounds are apart.
pub apart-no_share : (a b : Geometry) (m n : Bounds) → IsLeastBox m (positions_of a) → IsLeastBox n (positions_of b) →
    ((p : Point) → is_covered p a ≡ true → IsInBox p m) → ((p : Point) → is_covered p b ≡ true → IsInBox p n) →
    are_apart m n ≡ true → false ≡ do_intersect a b
unfolding do_intersect
apart-no_share a b m n i j f g h =
    let in_a = recursion_from_All (λ q. IsInBox q m) (positions_of a) i.holds in
    let in_b = recursion_from_All (λ q. IsInBox q n) (positions_of b) j.holds in
    let back = way_back n m (Way-flipped m n (way m n h)) in
    sym (rw (
      none_meet m n (segments_of a) (segments_of b) h (segments-in m a in_a) (segments-in n b in_b),
      first_out (λ p. is_covered p a) m n (positions_of b) h f in_b,
      first_out (λ p. is_covered p b) n m (positions_of a) back g in_a,
    ) refl)

-- A geometry whose bounds are apart from a box.
pub apart-no_meet_box : (g : Geometry) (m b : Bounds) → IsLeastBox m (positions_of g) → ((p : Point) → is_covered p g ≡ true → IsInBox p m) →
    IsUpright b → are_apart m b ≡ true → false ≡ do_meet_box g b
unfolding do_meet_box
apart-no_meet_box g m b i f up h =
    let in_g = recursion_from_All (λ q. IsInBox q m) (positions_of g) i.holds in
    let back = way_back b m (Way-flipped m b (way m b h)) in
    sym (rw (
      none_meet b m (sides b) (segments_of g) back (sides-in b up) (segments-in m g in_g),
      first_out (λ p. is_in_box p b) b m (positions_of g) back (λ p yes. in_box_test p b yes) in_g,
      not_true (is_covered b.low g) (λ yes. shared b.low m b (f b.low yes) (low_in b up) h),
    ) refl)

any-or : (f g : Segment → Bool) (ts : List Segment) → list_any (λ t. f t || g t) ts ≡ (list_any f ts || list_any g ts)
any-or f g [] = refl
any-or f g (t ∷ ts) = ap (λ b. (f t || g t) || b) (any-or f g ts) ∙ four (f t) (g t) (list_any f ts) (list_any g ts)
  where
    four : (a b c d : Bool) → ((a || b) || (c || d)) ≡ ((a || c) || (b || d))
    four true b c d = refl
    four false true true d = refl
    four false true false d = refl
    four false false true d = refl
    four false false false d = refl

any-same : (f g : Segment → Bool) → ((t : Segment) → f t ≡ g t) → (ts : List Segment) → list_any f ts ≡ list_any g ts
any-same f g e [] = refl
any-same f g e (t ∷ ts) = rw (e t, any-same f g e ts) refl

any-none : (ts : List Segment) → list_any (λ t. false) ts ≡ false
any-none [] = refl
any-none (t ∷ ts) = any-none ts

do_any_meet-symmetric : (ss ts : List Segment) → do_any_meet ss ts ≡ do_any_meet ts ss
do_any_meet-symmetric [] ts = sym (any-none ts)
do_any_meet-symmetric (s ∷ ss) ts =
    ap (λ b. meets_some s ts || b) (do_any_meet-symmetric ss ts)
    ∙ (ap (λ b. b || do_any_meet ts ss) (any-same (do_meet s) (λ t. do_meet t s) (do_meet-symmetric s) ts)
    ∙ sym (any-or (λ t. do_meet t s) (λ t. meets_some t ss) ts))

-- It does not matter which geometry is named first.
pub do_intersect-symmetric : (a b : Geometry) → do_intersect a b ≡ do_intersect b a
unfolding do_intersect
do_intersect-symmetric a b = rw (do_any_meet-symmetric (segments_of a) (segments_of b), or_comm (covers_first a b) (covers_first b a)) refl
