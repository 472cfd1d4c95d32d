use Rattle.std.proofs.Common.{◌≡◌, true, take}
use Rattle.std.specs.List.{list_all}
use Rattle.wfs_model.specs.Stored.{is_known}
use Rattle.stored_queries.proofs.describing.are_known.Given as goal

abbrev pub invariant-loop-id : goal.invariant-loop-id
invariant-loop-id l = list_all (is_known l.stored) (take l.id-index l.ids) ≡ true
