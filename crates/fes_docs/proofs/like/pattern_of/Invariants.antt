use Rattle.std.proofs.Common.{◌≡◌, fold, [], false}
use Rattle.fes_docs.specs.Like.{next_part}
use Rattle.fes_docs.proofs.like.pattern_of.Given as goal

abbrev pub invariant-loop-c : goal.invariant-loop-c
invariant-loop-c l = (l.found.items, l.is_escaped) ≡ fold (next_part l.marks) ([], false) l.yielded
