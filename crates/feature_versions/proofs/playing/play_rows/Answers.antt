use Rattle.std.proofs.Common.{List, ap, ◌∙◌}
use Rattle.feature_values.specs.declared.feature.Feature.{Feature}
use Rattle.feature_versions.specs.Types.{with_rows}
use Rattle.feature_versions.proofs.Alike.{alike_features, alike_typed}
use Rattle.feature_versions.proofs.playing.play_rows.Goals as goal

pub returns-clause-played : goal.returns-clause-played
returns-clause-played c = λ kept.
    ap (λ (fs : List Feature). with_rows kept fs c.play_listed.new.counters) (alike_features c.play_listed.new.layers.items c.sweep.new.layers.items c.sweep.ensures) ∙ c.play_listed.ensures.played kept

pub returns-clause-typed : goal.returns-clause-typed
returns-clause-typed c = alike_typed c.play_listed.new.layers.items c.sweep.new.layers.items c.sweep.ensures c.play_listed.ensures.typed
