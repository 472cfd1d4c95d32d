-- `==` on positions, paths and areas is equality.
use Rattle.std.proofs.Common.{◌≡◌, List, ap}
use Rattle.std.specs.Bool.{Decides}
use Rattle.std.specs.Cmp.{signed_Decides}
use Rattle.std.specs.Cmp.Lexicographic.{pointwise, pointwise_decides}
use Rattle.std.specs.Ordering.{int_eq}
use Rattle.std.proofs.lemmas.Bool.Decides.{Decides-and, Decides-like}
use Rattle.geom_core.specs.Plane.{Point, Area}
use Rattle.geom_core.specs.Shapes.{same_point, same_area}

pub same_point_Decides : (p q : Point) → Decides (same_point p q) (p ≡ q)
same_point_Decides p q = Decides-like (same_point p q)
    (λ (e : (p.x ≡ q.x) × (p.y ≡ q.y)). point p q e.0 e.1)
    (λ (e : p ≡ q). (ap (λ (r : Point). r.x) e, ap (λ (r : Point). r.y) e))
    (Decides-and (int_eq p.x q.x) (int_eq p.y q.y) (signed_Decides p.x q.x) (signed_Decides p.y q.y))
  where
    point : (a b : Point) → a.x ≡ b.x → a.y ≡ b.y → a ≡ b
    point a b e f = λ i. record { x = e i; y = f i }

pub positions_Decides : (ps qs : List Point) → Decides (pointwise same_point ps qs) (ps ≡ qs)
positions_Decides = pointwise_decides same_point_Decides

pub rings_Decides : (ps qs : List (List Point)) → Decides (pointwise (pointwise same_point) ps qs) (ps ≡ qs)
rings_Decides = pointwise_decides positions_Decides

pub same_area_Decides : (a b : Area) → Decides (same_area a b) (a ≡ b)
same_area_Decides a b = Decides-like (same_area a b)
    (λ (e : (a.shell ≡ b.shell) × (a.holes ≡ b.holes)). area a b e.0 e.1)
    (λ (e : a ≡ b). (ap (λ (c : Area). c.shell) e, ap (λ (c : Area). c.holes) e))
    (Decides-and (pointwise same_point a.shell b.shell) (pointwise (pointwise same_point) a.holes b.holes) (positions_Decides a.shell b.shell) (rings_Decides a.holes b.holes))
  where
    area : (m n : Area) → m.shell ≡ n.shell → m.holes ≡ n.holes → m ≡ n
    area m n e f = λ i. record { shell = e i; holes = f i }
