use Rattle.std.proofs.Common.{◌≡◌, drop, []}
use Rattle.wfs_ends.specs.Read.{each}
use Rattle.query_docs.specs.Asked.{next_given}
use Rattle.query_docs.specs.Seen.{HasGiven}
use Rattle.query_docs.proofs.asked.all_given.Given as goal

abbrev pub invariant-loop-element : goal.invariant-loop-element
invariant-loop-element l = record {
  so_far : each next_given l.given.items (drop l.element-index l.elements) ≡ each next_given [] l.elements;
  seen : HasGiven l.seen l.given.items;
}
