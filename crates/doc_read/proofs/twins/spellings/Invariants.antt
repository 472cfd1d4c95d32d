use Rattle.std.proofs.Common.{◌≡◌, ◌++◌, drop, map}
use Rattle.doc_read.specs.Lex.{raw_of}
use Rattle.doc_read.specs.Scope.{texts, spellings}
use Rattle.doc_read.proofs.twins.spellings.Given as goal

abbrev pub invariant-loop-raw : goal.invariant-loop-raw
invariant-loop-raw l = map texts l.found.items ++ spellings (map raw_of (drop l.raw-index l.raws)) ≡ spellings (map raw_of l.raws)
