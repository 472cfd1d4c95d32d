use Rattle.std.proofs.Common.{◌∙◌, rules}
use Rattle.gml_docs.proofs.Digits.{one_digit, one_more}
use Rattle.gml_docs.proofs.numbers.leading_number.Goals as goal

pub loop-i-preserved : goal.loop-i-preserved
loop-i-preserved c = record {
  count = one_digit _ _ _ c.loop-i-test.true (search rules) c.loop-i.invariant.count;
  number = c.with_digit-number.ensures ∙ one_more _ _ _ c.loop-i-test.true (search rules) c.loop-i.invariant.number;
}
