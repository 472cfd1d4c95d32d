use Rattle.std.proofs.Common.{◌≡◌, true, take}
use Rattle.std.specs.List.{list_all}
use Rattle.std.specs.Option.{option_copied}
use Rattle.wfs_model.specs.Filled.{is_read_as}
use Rattle.stored_queries.specs.Kinds.{kinds_of}
use Rattle.stored_queries.proofs.readable.+reads_in.Given as goal

abbrev pub invariant-reads_in_all-loop-part : goal.invariant-reads_in_all-loop-part
invariant-reads_in_all-loop-part l = list_all (λ part. list_all (is_read_as l.given.text.now) (kinds_of (option_copied l.of_type) l.given.place part)) (take l.part-index l.part-items) ≡ true
