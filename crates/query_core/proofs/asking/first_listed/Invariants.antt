use Rattle.std.proofs.Common.{◌≡◌, drop}
use Rattle.query_core.specs.Finding.{listed_by, first_of}
use Rattle.query_core.proofs.asking.first_listed.Given as goal

abbrev pub invariant-loop-part : goal.invariant-loop-part
invariant-loop-part l = first_of listed_by (drop l.part-index l.parts) ≡ first_of listed_by l.parts
