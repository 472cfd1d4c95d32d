use Rattle.std.proofs.Common.{◌≡◌, filter, not, take}
use Rattle.std.specs.Prelude.{is_some}
use Rattle.feature_overlay.specs.Changed.{change_at}
use Rattle.feature_overlay.proofs.changes.kept_ids.Given as goal

abbrev pub invariant-loop-id : goal.invariant-loop-id
invariant-loop-id l = l.kept.items ≡ filter (λ id. not (is_some (change_at id l.changes.entries))) (take l.id-index l.ids)
