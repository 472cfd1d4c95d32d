use Rattle.std.proofs.Common.{rules, of_calls}
use Rattle.std.proofs.lemmas.List.Sorted.{IsPartitionPoint-from_clause}
use Rattle.fes_filter.specs.View.{is_before}
use Rattle.wfs_machine.proofs.Places.{is_parted}
use Rattle.wfs_machine.proofs.ordered.place_of.Goals as goal

-- the closure compares a feature's identifier
pub returns-clause-low : goal.returns-clause-low
returns-clause-low c =
    (IsPartitionPoint-from_clause (λ f. is_before f.id c.args.id) c.args.features.now c.partition_point.result c.partition_point.ensures.partitioned (is_parted c.args.features.now c.args.id c.requires) (λ a r f called. search (rules, of_calls))).0

pub returns-clause-high : goal.returns-clause-high
returns-clause-high c =
    (IsPartitionPoint-from_clause (λ f. is_before f.id c.args.id) c.args.features.now c.partition_point.result c.partition_point.ensures.partitioned (is_parted c.args.features.now c.args.id c.requires) (λ a r f called. search (rules, of_calls))).1
