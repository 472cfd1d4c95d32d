use Rattle.std.proofs.Common.{◌≡◌, true, All, take}
use Rattle.fes_filter.specs.View.{is_before}
use Rattle.service_rows.proofs.reads.views.is_before_all.Given as goal

abbrev pub invariant-loop-feature : goal.invariant-loop-feature
invariant-loop-feature l = All (λ f. is_before l.id f.id ≡ true) (take l.feature-index l.features)
