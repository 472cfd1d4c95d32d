use Rattle.std.proofs.Common.{◌≡◌, filter, take, not}
use Rattle.wfs_model.specs.Locking.{is_held}
use Rattle.request_plans.proofs.dividing.free_of.Given as goal

abbrev pub invariant-loop-id : goal.invariant-loop-id
invariant-loop-id l = record {
  taken : l.taken.items ≡ filter (λ id. not (is_held l.locks.locks l.moment id)) (take l.id-index l.ids);
  missed : l.missed.items ≡ filter (is_held l.locks.locks l.moment) (take l.id-index l.ids);
}
