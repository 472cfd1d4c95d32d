use Rattle.std.proofs.Common.{◌≡◌, ◌+◌, ◌-◌, ◌*◌, length}
use Rattle.std.specs.Str.{chars}
use denote.Shadow.{shadow}
use denote.Text.{Utf8}
use Rattle.wfs_ends.specs.Read.{until}
use Rattle.doc_read.specs.declared.fault.DocFault.TheVariants.{Malformed}
use Rattle.doc_read.specs.Levels.{bounds_of}
use Rattle.doc_read.specs.Element.{inside_of, turn_at, element_at, content_at}
use Rattle.doc_read.proofs.tree.+tree.Given as goal

abbrev pub decreases-element : goal.decreases-element
decreases-element l = 3 * l.depth

abbrev pub decreases-turn : goal.decreases-turn
decreases-turn l = 3 * l.depth + 1

abbrev pub decreases-content : goal.decreases-content
decreases-content l = 3 * l.depth + 2

abbrev pub invariant-content-loop : goal.invariant-content-loop
invariant-content-loop l = record {
  text : shadow (Utf8 l.inside.rest.now);
  scope : l.scope.items ≡ l.fn.scope.items;
  reads : until Malformed (turn_at (element_at l.depth (bounds_of l.fn.scope.items))) (length l.cs - l.counter) (inside_of l.inside) ≡ content_at (element_at l.depth (bounds_of l.fn.scope.items)) l.fn.seen (chars l.cs);
}
