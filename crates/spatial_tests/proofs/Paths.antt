-- Tests of the segments of a path, one by one.
use Rattle.std.proofs.Common.{◌≡◌, ℕ, ◌+◌, ◌-◌, ◌<◌, ◌≤◌, Bool, true, false, ◌||◌, length, drop, take, List, [], ◌∷◌, get_or, refl, arith, ap, ◌∙◌, sym}
use Rattle.std.specs.List.{list_any, flat_map}
use Rattle.std.proofs.lemmas.List.{drop_all}
use Rattle.std.proofs.lemmas.List.Folds.{list_any-append}
use Rattle.geom_core.specs.Plane.{Point, Area}
use Rattle.geom_core.specs.Segments.{Segment}
use Rattle.geom_core.specs.Rings.{edges, edges_from}
use Rattle.geom_core.proofs.Boxes.{take_rest}
use Rattle.geom_core.proofs.Walks.{edges_from-next}
use Rattle.spatial_tests.specs.Sharing.{segments_of_area}

-- The first i points of the path are passed, `last` is the one that was passed last, and no segment so far
-- passes the test.
pub record Passed (test : Segment → Bool) (start : Point) (path : List Point) (last : Point) (i : ℕ) : Type 0 where
  pub same : list_any test (edges_from start path) ≡ list_any test (edges_from last (drop i path))

pub Passed-start : (test : Segment → Bool) (start : Point) (path : List Point) → Passed test start path start 0
Passed-start test start path = record { same = refl }

pub Passed-next : (test : Segment → Bool) (start : Point) (path : List Point) (last next : Point) (i : ℕ) (b : Bool) → i < length path → next ≡ get_or path i next →
    Passed test start path last i → b ≡ test (record { from = last; to = next }) → b ≡ false → Passed test start path next (i + 1)
Passed-next test start path last next i b h e w is off = record {
  same =
      w.same ∙ (ap (list_any test) (edges_from-next last next path i h e)
      ∙ ap (λ c. c || list_any test (edges_from next (drop (i + 1) path))) (sym is ∙ off));
}

pub Passed-found : (test : Segment → Bool) (start : Point) (path : List Point) (last next : Point) (i : ℕ) (b : Bool) → i < length path → next ≡ get_or path i next →
    Passed test start path last i → b ≡ test (record { from = last; to = next }) → b ≡ true → true ≡ list_any test (edges_from start path)
Passed-found test start path last next i b h e w is on = sym
    (w.same ∙ (ap (list_any test) (edges_from-next last next path i h e)
    ∙ ap (λ c. c || list_any test (edges_from next (drop (i + 1) path))) (sym is ∙ on)))

pub Passed-end : (test : Segment → Bool) (start : Point) (path : List Point) (last : Point) (i : ℕ) → length path ≤ i →
    Passed test start path last i → false ≡ list_any test (edges_from start path)
Passed-end test start path last i h w = sym (w.same ∙ ap (λ rest. list_any test (edges_from last rest)) (drop_all i path h))

pub edges-read : (test : Segment → Bool) (path : List Point) (first : Point) (b : Bool) → first ≡ get_or path 0 first → 0 < length path →
    b ≡ list_any test (edges_from first (take (length path - 1) (drop 1 path))) → b ≡ list_any test (edges path)
edges-read test [] first b e h f = absurd (omega arith)
edges-read test (q ∷ qs) first b e h f = rw (f, take_rest q qs, e) refl

pub edges-none : (test : Segment → Bool) (path : List Point) → length path ≡ 0 → false ≡ list_any test (edges path)
edges-none test [] h = refl
edges-none test (q ∷ qs) h = absurd (omega arith)

any-rings : (test : Segment → Bool) (rings : List (List Point)) →
    list_any test (flat_map edges rings) ≡ list_any (λ ring. list_any test (edges ring)) rings
any-rings test [] = refl
any-rings test (ring ∷ rings) =
    list_any-append test (edges ring) (flat_map edges rings) ∙ ap (λ b. list_any test (edges ring) || b) (any-rings test rings)

pub any-area : (test : Segment → Bool) (area : Area) →
    (list_any test (edges area.shell) || list_any (λ ring. list_any test (edges ring)) area.holes) ≡ list_any test (segments_of_area area)
any-area test area = sym (list_any-append test (edges area.shell) (flat_map edges area.holes)
    ∙ ap (λ b. list_any test (edges area.shell) || b) (any-rings test area.holes))

pub rings-met : (test : Segment → Bool) (area : Area) (b k : Bool) → b ≡ list_any test (edges area.shell) → b ≡ false →
    k ≡ list_any (λ ring. list_any test (edges ring)) area.holes → k ≡ list_any test (segments_of_area area)
rings-met test area b k e off f = f ∙ (ap (λ c. c || list_any (λ ring. list_any test (edges ring)) area.holes) (sym off ∙ e) ∙ any-area test area)
