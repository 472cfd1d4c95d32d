use Rattle.std.proofs.Common.{ap}
use Rattle.std.specs.Prelude.{nat_lt}
use Rattle.std.proofs.lemmas.Iterator.{YieldsList-from_chars}
use Rattle.std.proofs.lemmas.Iterator.Consumers.{count_from_yields_List}
use Rattle.feature_values.specs.Reads.{is_longer}
use Rattle.feature_values.proofs.read.is_longer.Goals as goal

pub returns : goal.returns
unfolding is_longer
returns c = ap (nat_lt c.args.max) (count_from_yields_List _ _ c.count.ensures.ran (YieldsList-from_chars c.args.text.now c.utf8.text cc))
