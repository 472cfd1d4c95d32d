use Rattle.std.proofs.Common.{◌≡◌, ◌≤◌, length, drop, chars}
use denote.Text.{Utf8}
use denote.Shadow.{shadow}
use Rattle.fes_filter.proofs.letters.behind.Given as goal

abbrev pub invariant-loop : goal.invariant-loop
invariant-loop l = record {
  utf8 : shadow (Utf8 l.rest);
  value : chars l.rest ≡ drop l.counter (chars l.text);
  shorter : length l.rest ≤ length l.text;
}
