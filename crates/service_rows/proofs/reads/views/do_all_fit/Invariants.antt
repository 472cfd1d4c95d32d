use Rattle.std.proofs.Common.{◌≡◌, Ok, All, take}
use Rattle.feature_values.specs.Fits.{feature_fits}
use Rattle.service_rows.proofs.reads.views.do_all_fit.Given as goal

abbrev pub invariant-loop-feature : goal.invariant-loop-feature
invariant-loop-feature l = All (λ f. feature_fits l.schema f ≡ Ok tt) (take l.feature-index l.features)
