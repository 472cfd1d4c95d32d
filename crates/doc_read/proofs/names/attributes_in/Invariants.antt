use Rattle.std.proofs.Common.{◌≡◌, ◌++◌, drop, map}
use Rattle.doc_read.specs.Lex.{raw_of}
use Rattle.doc_read.specs.Scope.{attributes_in}
use Rattle.doc_read.specs.Levels.{bounds_of}
use Rattle.doc_read.proofs.names.attributes_in.Given as goal

abbrev pub invariant-loop-raw : goal.invariant-loop-raw
invariant-loop-raw l = l.found.items ++ attributes_in (bounds_of l.scope) (map raw_of (drop l.raw-index l.raws)) ≡ attributes_in (bounds_of l.scope) (map raw_of l.raws)
