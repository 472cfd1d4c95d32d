use Rattle.std.proofs.Common.{◌≡◌, drop}
use Rattle.wfs_ends.specs.Read.{each}
use Rattle.wfs_model.specs.Expand.{expanded, all_expanded}
use Rattle.stored_queries.specs.Meant.{all_meant, with_more}
use Rattle.stored_queries.proofs.expanding.expand_all.Given as goal

abbrev pub invariant-loop-one : goal.invariant-loop-one
invariant-loop-one l = each (λ queries one. with_more queries (expanded l.schema l.stored one)) (all_meant l.all.items) (drop l.one-index l.asked) ≡ all_expanded l.schema l.stored l.asked
