use Rattle.std.proofs.Common.{◌≡◌, drop}
use Rattle.wfs_requests.specs.Features.{all_met}
use Rattle.wfs_requests.proofs.features.all_met.Given as goal

abbrev pub invariant-loop-i : goal.invariant-loop-i
invariant-loop-i l = all_met (drop l.i l.properties) (drop l.i l.met) ≡ all_met l.properties l.met
