use Rattle.std.proofs.Common.{◌≡◌, drop, map}
use Rattle.doc_read.specs.Lex.{raw_of}
use Rattle.doc_read.specs.Scope.{has_unknown}
use Rattle.doc_read.specs.Levels.{bounds_of}
use Rattle.doc_read.proofs.names.has_unknown.Given as goal

abbrev pub invariant-loop-raw : goal.invariant-loop-raw
invariant-loop-raw l = has_unknown (bounds_of l.scope) (map raw_of (drop l.raw-index l.raws)) ≡ has_unknown (bounds_of l.scope) (map raw_of l.raws)
