use Rattle.std.proofs.Common.{◌≡◌, drop, map}
use Rattle.wfs_ends.specs.Read.{each}
use Rattle.doc_read.specs.Lex.{raw_of}
use Rattle.doc_read.specs.Scope.{declared_at, declared_step}
use Rattle.doc_read.proofs.scope.declared_at.Given as goal

abbrev pub invariant-loop-raw : goal.invariant-loop-raw
invariant-loop-raw l = each declared_step l.found.items (map raw_of (drop l.raw-index l.raws)) ≡ declared_at (map raw_of l.raws)
