use Rattle.std.proofs.Common.{◌≡◌, None, drop}
use Rattle.std.specs.Option.{option_copied}
use Rattle.doc_read.specs.Scope.{newest}
use Rattle.doc_read.specs.Levels.{bounds_of}
use Rattle.doc_read.proofs.names.newest.Given as goal

abbrev pub invariant-loop-level : goal.invariant-loop-level
invariant-loop-level l = newest l.prefix (option_copied l.found) (bounds_of (drop l.level-index l.scope)) ≡ newest l.prefix None (bounds_of l.scope)
