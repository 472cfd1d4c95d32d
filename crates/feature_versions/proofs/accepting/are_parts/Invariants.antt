use Rattle.std.proofs.Common.{◌≡◌, drop}
use Rattle.feature_overlay.specs.Laid.{all_laid}
use Rattle.feature_versions.specs.Accepting.{parts_on}
use Rattle.feature_versions.proofs.accepting.are_parts.Given as goal

abbrev pub invariant-loop-part : goal.invariant-loop-part
invariant-loop-part g l = record {
  rest : parts_on l.schema (all_laid (g.V.FeatureView.features l.overlay.view.now) l.overlay.changes.entries) (drop l.part-index l.parts) ≡ parts_on l.schema (g.V.FeatureView.features l.view) l.parts;
  schema : g.V.FeatureView.schema l.overlay.view.now ≡ l.schema;
}
