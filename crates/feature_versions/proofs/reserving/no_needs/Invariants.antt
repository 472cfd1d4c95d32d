use Rattle.std.proofs.Common.{◌≡◌, [], length}
use Rattle.feature_versions.specs.Needs.{AreNeeds}
use Rattle.feature_versions.proofs.reserving.no_needs.Given as goal

abbrev pub invariant-loop : goal.invariant-loop
invariant-loop l = record {
  needs : AreNeeds [] l.needs.items;
  types : length l.needs.items ≡ l.counter;
}
