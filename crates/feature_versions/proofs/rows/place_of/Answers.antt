use Rattle.std.proofs.Common.{nat_lt, rules, of_calls, sym, ◌∙◌}
use Rattle.std.proofs.lemmas.List.Sorted.{IsPartitionPoint-from_clause}
use Rattle.feature_versions.proofs.Placing.{is_parted, stands, first_of_stands}
use Rattle.feature_versions.proofs.rows.place_of.Goals as goal

-- the closure compares a row's number
pub returns-clause-low : goal.returns-clause-low
returns-clause-low c =
    (IsPartitionPoint-from_clause (λ row. nat_lt row.number c.args.number) c.args.rows.now c.partition_point.result c.partition_point.ensures.partitioned (is_parted c.args.rows.now c.args.number c.requires) (λ a r f called. search (rules, of_calls))).0

pub returns-clause-high : goal.returns-clause-high
returns-clause-high c =
    (IsPartitionPoint-from_clause (λ row. nat_lt row.number c.args.number) c.args.rows.now c.partition_point.result c.partition_point.ensures.partitioned (is_parted c.args.rows.now c.args.number c.requires) (λ a r f called. search (rules, of_calls))).1

-- the row at the expected place has the number
pub returns-then-is_at-clause-bound : goal.returns-then-is_at-clause-bound
returns-then-is_at-clause-bound c =
    (first_of_stands c.args.number c.args.rows.now _ c.requires (stands c.args.number c.args.rows.now _ (sym c.is_at.ensures.value ∙ c.if-is_at.true))).0

pub returns-then-is_at-clause-low : goal.returns-then-is_at-clause-low
returns-then-is_at-clause-low c =
    (first_of_stands c.args.number c.args.rows.now _ c.requires (stands c.args.number c.args.rows.now _ (sym c.is_at.ensures.value ∙ c.if-is_at.true))).1

pub returns-then-is_at-clause-high : goal.returns-then-is_at-clause-high
returns-then-is_at-clause-high c =
    (first_of_stands c.args.number c.args.rows.now _ c.requires (stands c.args.number c.args.rows.now _ (sym c.is_at.ensures.value ∙ c.if-is_at.true))).2
