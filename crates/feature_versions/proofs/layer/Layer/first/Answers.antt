-- The first feature stands behind the rows without features.
use Rattle.std.proofs.Common.{List, ◌∙◌, sym, ap, drop}
use Rattle.std.specs.Prelude.{slice_get}
use Rattle.feature_values.specs.declared.feature.Feature.{Feature}
use Rattle.feature_versions.specs.declared.rows.Row.{Row}
use Rattle.feature_versions.specs.Rows.{live}
use Rattle.feature_versions.proofs.Fronts.{gone_first}
use Rattle.feature_versions.proofs.layer.Layer.first.Goals as goal

pub returns : goal.returns
returns c =
    rw (← c.self.view_is)
    (c.feature_from.ensures ∙ ap (λ (rows : List Row). slice_get (live (drop c.self.inside.first rows)) 0) c.as_slice.ensures.value
    ∙ ap (λ (fs : List Feature). slice_get fs 0) (sym (gone_first c.self.inside.rows.items c.self.inside.first c.self.invariant.gone)))
