-- The last point of a ring, by its index.
use Rattle.std.proofs.Common.{◌≡◌, ◌<◌, ◌-◌, suc, length, List, [], ◌∷◌, get_or, refl, arith, Bool, ap, ◌∙◌}
use Rattle.geom_core.specs.Plane.{Point}
use Rattle.geom_core.specs.Shapes.{same_point, last_of, is_closed}

pub last_of-read : (p : Point) (ps : List Point) (d : Point) → get_or (p ∷ ps) (length ps) d ≡ last_of p ps
last_of-read p [] d = refl
last_of-read p (q ∷ qs) d = last_of-read q qs d

pub is_closed-read : (ps : List Point) (first last : Point) (b : Bool) →
    first ≡ get_or ps 0 first → last ≡ get_or ps (length ps - 1) last → 0 < length ps →
    b ≡ same_point first last → b ≡ is_closed ps
is_closed-read [] first last b e f h g = absurd (omega arith)
is_closed-read (p ∷ ps) first last b e f h g =
    let shorter : suc (length ps) - 1 ≡ length ps = omega arith in
    let at_end : last ≡ last_of p ps = (f ∙ ap (λ k. get_or (p ∷ ps) k last) shorter) ∙ last_of-read p ps last in
    g ∙ (ap (λ q. same_point q last) e ∙ ap (same_point p) at_end)
