-- That features are those of a view is a fact: there is one proof of it at most.
use Rattle.std.specs.Prelude.{List, [], ◌∷◌}
use Rattle.std.proofs.Props.{props}
use Rattle.feature_values.specs.declared.feature.Feature.{Feature}
use Rattle.feature_values.specs.declared.schema.Schema.{Schema}
use Rattle.fes_filter.specs.View.{IsInOrder, IsView}
use Rattle.feature_overlay.specs.Laid.{Change}
use Rattle.feature_overlay.specs.Changed.{AreFitting}

in_order_prop : (fs : List Feature) → IsProp (IsInOrder fs)
in_order_prop [] = hlevel
in_order_prop (f ∷ fs) = hlevel (props, in_order_prop fs)

pub view_prop : (schema : Schema) (fs : List Feature) → IsProp (IsView schema fs)
view_prop schema fs = hlevel (props, in_order_prop fs)

pub fitting_prop : (schema : Schema) (changes : List Change) → IsProp (AreFitting schema changes)
fitting_prop schema changes = hlevel props
