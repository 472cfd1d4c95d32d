use Rattle.std.proofs.Common.{◌≡◌}
use Rattle.std.specs.List.{flat_map}
use Rattle.wfs_ends.specs.Ends.{Writes}
use Rattle.doc_tree.proofs.Escapes.{escaped_character}
use Rattle.doc_tree.proofs.text.put_characters.Given as goal

abbrev pub invariant-loop-c : goal.invariant-loop-c
invariant-loop-c g l = Writes (record { shown = g.S.Sink.sink l.fn.sink; failed = l.fn.failed }) (flat_map (escaped_character l.in_value) l.yielded) (record { shown = g.S.Sink.sink l.sink; failed = l.failed })
