use Rattle.std.proofs.Common.{◌≡◌, take}
use Rattle.feature_versions.proofs.storing.copies.Given as goal

abbrev pub invariant-loop-query : goal.invariant-loop-query
invariant-loop-query l = l.all.items ≡ take l.query-index l.queries
