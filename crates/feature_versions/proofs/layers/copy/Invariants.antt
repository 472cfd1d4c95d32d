use Rattle.std.proofs.Common.{◌≡◌, ℕ, ◌<◌, length, get_or}
use Rattle.feature_versions.specs.Layer.{Layered}
use Rattle.feature_versions.specs.Types.{IsAlike}
use Rattle.feature_versions.proofs.layers.copy.Given as goal

abbrev pub invariant-loop-layer : goal.invariant-loop-layer
invariant-loop-layer l = record {
  types : length l.copies.items ≡ l.layer-index;
  each : (kind : ℕ) (d : Layered) → kind < l.layer-index → IsAlike (get_or l.layers kind d) (get_or l.copies.items kind d);
}
