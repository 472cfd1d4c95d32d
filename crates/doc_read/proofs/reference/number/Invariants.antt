use Rattle.std.proofs.Common.{◌≡◌, ◌≤◌, length}
use Rattle.std.specs.Prelude.{min}
use Rattle.std.specs.Str.{chars}
use denote.Shadow.{shadow}
use denote.Text.{Utf8}
use Rattle.doc_read.specs.Lex.{number}
use Rattle.doc_read.proofs.reference.number.Given as goal

abbrev pub invariant-loop-c : goal.invariant-loop-c
invariant-loop-c l = record {
  text : shadow (Utf8 l.rest);
  small : l.value ≤ 0x110000;
  same : min (number l.base l.value (chars l.rest)) 0x110000 ≡ min (number l.base 0 (chars l.digits)) 0x110000;
}

abbrev pub decreases-loop-c : goal.decreases-loop-c
decreases-loop-c l = length l.rest
