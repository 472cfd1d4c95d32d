use Rattle.std.proofs.Common.{sym}
use Rattle.feature_values.proofs.Numerals.{no_text_is_none}
use Rattle.feature_values.proofs.read.whole_of.Goals as goal

pub returns-in-Err : goal.returns-in-Err
returns-in-Err c = sym (no_text_is_none c.args.bytes.now c.in-Err.ensures.cases.0)
