use Rattle.std.proofs.Common.{sym, ◌∙◌}
use Rattle.feature_versions.proofs.Boxing.{same_box, same_boxes}
use Rattle.feature_versions.proofs.boxes.is_same_box.Goals as goal

pub returns-in-Shape-Shape-clause-same : goal.returns-in-Shape-Shape-clause-same
returns-in-Shape-Shape-clause-same c = λ yes.
    same_boxes c.args.old.now c.args.new.now c.in-Shape-Shape.old c.in-Shape-Shape.new c.bounds.result c.bounds-in-Shape-Shape.result c.in-Shape-Shape.is-0 c.in-Shape-Shape.is-1 c.bounds.ensures.value c.bounds-in-Shape-Shape.ensures.value
    (same_box c.bounds.result c.bounds-in-Shape-Shape.result (sym c.eq.ensures ∙ yes))
