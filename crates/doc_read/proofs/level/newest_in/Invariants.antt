use Rattle.std.proofs.Common.{◌≡◌, None, take}
use Rattle.std.specs.Option.{option_copied}
use Rattle.doc_read.specs.Scope.{newest}
use Rattle.doc_read.proofs.level.newest_in.Given as goal

abbrev pub invariant-loop-bound : goal.invariant-loop-bound
invariant-loop-bound l = option_copied l.found ≡ newest l.prefix None (take l.bound-index l.bounds)
