use Rattle.std.proofs.Common.{◌∙◌, arith}
use Rattle.wfs_words.proofs.Numbers.{parsed, not_parsed}
use Rattle.wfs_words.proofs.number.number_in.Goals as goal

pub returns-in-Ok : goal.returns-in-Ok
returns-in-Ok c = c.within.ensures ∙ parsed c.args.low c.args.high c.in-Ok.number c.args.text.now c.parse.result c.parse.ensures.value.0 c.in-Ok.is

pub returns-in-Err : goal.returns-in-Err
returns-in-Err c = not_parsed c.args.low c.args.high c.args.text.now c.parse.result c.in-Err.field-0 c.parse.ensures.value.0 c.in-Err.is (omega (arith, c.ranges.high))
