use Rattle.std.proofs.Common.{◌≡◌}
use Rattle.wfs_model.specs.Read.{numbers_below}
use Rattle.stored_queries.proofs.answering.numbers_below.Given as goal

abbrev pub invariant-loop-n : goal.invariant-loop-n
invariant-loop-n l = l.all.items ≡ numbers_below l.n
