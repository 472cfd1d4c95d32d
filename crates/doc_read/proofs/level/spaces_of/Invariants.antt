use Rattle.std.proofs.Common.{◌≡◌, ℕ, List, None, take}
use Rattle.std.specs.BTreeMap.{get_by_text}
use Rattle.doc_read.specs.Scope.{newest}
use Rattle.doc_read.proofs.level.spaces_of.Given as goal

abbrev pub invariant-loop-bound : goal.invariant-loop-bound
invariant-loop-bound l = (prefix : List ℕ) → get_by_text l.spaces prefix ≡ newest prefix None (take l.bound-index l.bounds)
