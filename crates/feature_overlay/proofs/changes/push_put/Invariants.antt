use Rattle.std.proofs.Common.{◌≡◌, ◌++◌}
use Rattle.feature_overlay.specs.Changed.{put_ids}
use Rattle.feature_overlay.proofs.changes.push_put.Given as goal

abbrev pub invariant-loop-key : goal.invariant-loop-key
invariant-loop-key l = l.ids.items ++ put_ids l.kind l.key-iterator ≡ l.initial.ids.items ++ put_ids l.kind l.changes.entries
