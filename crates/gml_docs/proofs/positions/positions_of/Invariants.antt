use Rattle.std.proofs.Common.{◌≡◌, length}
use Rattle.std.specs.Result.{result_map_both}
use Rattle.gml_docs.specs.Numbers.{words, positions_of}
use Rattle.gml_docs.proofs.Pairs.{resumed}
use Rattle.gml_docs.proofs.positions.positions_of.Given as goal

abbrev pub invariant-loop-a : goal.invariant-loop-a
invariant-loop-a l = resumed (result_map_both (λ v. v.items) (λ e. e) l.found) (words l.rest) ≡ positions_of l.text

abbrev pub decreases-loop-a : goal.decreases-loop-a
decreases-loop-a l = length l.rest
