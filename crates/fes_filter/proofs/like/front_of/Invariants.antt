use Rattle.std.proofs.Common.{◌≡◌, ◌≤◌, length, drop, chars}
use denote.Text.{Utf8}
use denote.Shadow.{shadow}
use Rattle.fes_filter.specs.LikeFront.{front_of}
use Rattle.fes_filter.proofs.like.front_of.Given as goal

abbrev pub invariant-loop-i : goal.invariant-loop-i
invariant-loop-i l = record {
  utf8 : shadow (Utf8 l.rest);
  same : front_of (drop l.i l.pattern) (chars l.rest) ≡ front_of l.pattern (chars l.text);
  shorter : length l.rest ≤ length l.text;
}
