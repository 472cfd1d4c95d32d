use Rattle.std.proofs.Common.{◌≡◌, ◌+◌, drop, take}
use Rattle.std.specs.Str.Parse.{digits_value}
use Rattle.gml_docs.specs.Numbers.{digit_count, near_natural}
use Rattle.gml_docs.proofs.numbers.leading_number.Given as goal

abbrev pub invariant-loop-i : goal.invariant-loop-i
invariant-loop-i l = record {
  count : digit_count (drop l.i l.text) + l.i ≡ digit_count l.text;
  number : l.number ≡ near_natural (digits_value 10 (take l.i l.text));
}
