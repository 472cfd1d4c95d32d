use Rattle.std.proofs.Common.{◌≡◌, take}
use Rattle.std.specs.List.{fold}
use Rattle.feature_overlay.specs.Laid.{all_laid}
use Rattle.transaction_core.specs.Planning.{Turning, turned}
use Rattle.transaction_core.proofs.laying.turn_all.Given as goal

abbrev pub invariant-loop-id : goal.invariant-loop-id
invariant-loop-id g l =
    let begun : Turning = record { features = all_laid (g.V.FeatureView.features l.initial.overlay.view.now) l.initial.overlay.changes.entries; parts = l.initial.parts.items } in
    let at : Turning = record { features = all_laid (g.V.FeatureView.features l.overlay.view.now) l.overlay.changes.entries; parts = l.parts.items } in
    record {
      turned : at ≡ fold (turned l.action) begun (take l.id-index l.ids);
      schema : g.V.FeatureView.schema l.overlay.view.now ≡ g.V.FeatureView.schema l.initial.overlay.view.now;
    }
