use Rattle.std.proofs.Common.{◌≡◌, List, [], ◌∷◌, ◌++◌, ap, sym, ◌∙◌, subst}
use Rattle.geom_core.specs.Plane.{Bounds}
use Rattle.geom_core.specs.declared.geometry.Geometry.{Geometry}
use Rattle.geom_core.specs.Extents.{bounds_of}
use Rattle.feature_values.specs.declared.value.Value.{Value}
use Rattle.feature_values.specs.declared.value.Value.TheVariants.{Shape}
use Rattle.feature_values.specs.declared.feature.Rid.{Rid}
use Rattle.grid_index.specs.Gridded.{pairs_at, IsGridOf}
use Rattle.grid_index.specs.Near.{Placed}
use Rattle.feature_versions.specs.Near.{boxes_in}
use Rattle.feature_versions.specs.Placed.{placed}
use Rattle.feature_versions.proofs.boxes.remove_box.Goals as goal

one_of : (id : Rid) (value : Value) (shape : Geometry) (area : Bounds) → value ≡ Shape shape → area ≡ bounds_of shape → placed id (boxes_in value) ≡ (id, area) ∷ []
one_of id value shape area is at = ap (λ (v : Value). placed id (boxes_in v)) is ∙ ap (λ (b : Bounds). (let q : Placed = (id, b) in q) ∷ []) (sym at)

pub returns-in-Shape-clause-pairs : goal.returns-in-Shape-clause-pairs
returns-in-Shape-clause-pairs c = λ pairs h.
    c.remove.ensures.pairs [] pairs (subst (λ (l : List Placed). IsGridOf (pairs_at c.args.grid.now) (l ++ pairs)) (one_of c.args.id c.args.value.now c.in-Shape.shape c.bounds.result c.in-Shape.is c.bounds.ensures.value) h)
