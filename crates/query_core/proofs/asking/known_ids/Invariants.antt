use Rattle.std.proofs.Common.{◌≡◌, take}
use Rattle.query_core.specs.Finding.{known_ids}
use Rattle.query_core.proofs.asking.known_ids.Given as goal

abbrev pub invariant-loop-reference : goal.invariant-loop-reference
invariant-loop-reference l = l.ids.items ≡ known_ids (take l.reference-index l.references)
