use Rattle.std.proofs.Common.{◌≡◌, ◌-◌, ◌≤◌, true, take, length}
use Rattle.std.specs.List.{list_all}
use Rattle.doc_read.specs.declared.lex.Class.TheVariants.{NamePart}
use Rattle.doc_read.specs.Chars.{holds}
use Rattle.doc_read.proofs.lex.skip_name.Given as goal

abbrev pub invariant-loop-place : goal.invariant-loop-place
invariant-loop-place l = record {
  high : l.place ≤ length l.bytes;
  all : list_all (holds NamePart) (take l.place l.bytes) ≡ true;
}

abbrev pub decreases-loop-place : goal.decreases-loop-place
decreases-loop-place l = length l.bytes - l.place
