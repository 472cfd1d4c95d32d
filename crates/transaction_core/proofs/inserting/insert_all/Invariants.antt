use Rattle.std.proofs.Common.{◌≡◌, take}
use Rattle.std.specs.List.{fold}
use Rattle.feature_overlay.specs.Laid.{all_laid}
use Rattle.transaction_core.specs.Planning.{planning_of, came}
use Rattle.transaction_core.proofs.inserting.insert_all.Given as goal

abbrev pub invariant-loop-feature : goal.invariant-loop-feature
invariant-loop-feature g l =
    let begun = planning_of (all_laid (g.V.FeatureView.features l.initial.overlay.view.now) l.initial.overlay.changes.entries) l.initial.tally in
    record {
      came : planning_of (all_laid (g.V.FeatureView.features l.overlay.view.now) l.overlay.changes.entries) l.tally ≡ fold (came l.handle) begun (take l.feature-index l.features);
      schema : g.V.FeatureView.schema l.overlay.view.now ≡ g.V.FeatureView.schema l.initial.overlay.view.now;
    }
