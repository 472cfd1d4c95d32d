use Rattle.feature_values.proofs.Numerals.{parse_is}
use Rattle.feature_values.proofs.read.whole_of_text.Goals as goal

pub returns : goal.returns
returns c = rw c.ok.ensures.value (parse_is c.args.text.now c.parse.result c.parse.ensures.value.0)
