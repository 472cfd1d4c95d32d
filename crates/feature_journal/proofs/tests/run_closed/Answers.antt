use Rattle.std.proofs.Common.{◌≤◌, ℕ, List, length, Option, Some, None, IfSome, arith}
use Rattle.feature_journal.proofs.tests.run_closed.Goals as goal

none_before : (shown : Option (List ℕ)) → IfSome shown (λ s. 0 ≤ length s)
none_before None = tt
none_before (Some s) = omega arith

pub settle-requires : goal.settle-requires
settle-requires g c = none_before _
