use Rattle.std.proofs.Common.{◌≡◌, ◌++◌}
use Rattle.std.specs.Vec.Iter.{into_iter_items}
use Rattle.stored_queries.specs.Meant.{all_meant}
use Rattle.stored_queries.proofs.expanding.add_filled.Given as goal

abbrev pub invariant-loop-query : goal.invariant-loop-query
invariant-loop-query l = all_meant l.all.items ++ into_iter_items l.query-iterator ≡ all_meant l.initial.all.items ++ l.fn.queries.items
