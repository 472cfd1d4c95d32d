use Rattle.stored_queries.proofs.Created.{Left}
use Rattle.stored_queries.proofs.stored.first_known.Given as goal

abbrev pub invariant-loop-i : goal.invariant-loop-i
invariant-loop-i l = Left l.stored l.definitions l.i
