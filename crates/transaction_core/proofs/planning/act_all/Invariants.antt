use Rattle.std.proofs.Common.{◌≡◌, length, drop}
use Rattle.wfs_ends.specs.Read.{each}
use Rattle.feature_overlay.specs.Laid.{all_laid}
use Rattle.wfs_model.specs.Plans.{planned}
use Rattle.transaction_core.specs.Planning.{planning_of, may_of}
use Rattle.transaction_core.proofs.planning.act_all.Given as goal

abbrev pub invariant-loop-action : goal.invariant-loop-action
invariant-loop-action g l =
    let at = planning_of (all_laid (g.V.FeatureView.features l.overlay.view.now) l.overlay.changes.entries) l.tally in
    let begun = planning_of (all_laid (g.V.FeatureView.features l.initial.overlay.view.now) l.initial.overlay.changes.entries) l.initial.tally in
    record {
      rest : each (planned (may_of l.guard)) at (drop l.action-index l.actions) ≡ each (planned (may_of l.guard)) begun l.actions;
      many : length l.tally.counters.items ≡ length l.initial.tally.counters.items;
      schema : g.V.FeatureView.schema l.overlay.view.now ≡ g.V.FeatureView.schema l.initial.overlay.view.now;
    }
