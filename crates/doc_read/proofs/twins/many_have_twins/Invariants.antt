use Rattle.std.proofs.Common.{◌≡◌, ℕ, List, false, take, map}
use Rattle.doc_read.specs.Scope.{has_twins, same_pair, texts}
use Rattle.doc_read.proofs.Repeats.{is_among, has_pair}
use Rattle.doc_read.proofs.twins.many_have_twins.Given as goal

abbrev pub invariant-loop-pair : goal.invariant-loop-pair
invariant-loop-pair l = record {
  seen : (q : List ℕ × List ℕ) → has_pair l.seen q ≡ is_among same_pair q (take l.pair-index (map texts l.pairs));
  apart : has_twins same_pair (take l.pair-index (map texts l.pairs)) ≡ false;
}
