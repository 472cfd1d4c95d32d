use Rattle.std.proofs.Common.{length}
use Rattle.doc_read.proofs.twins.+few_have_twins.Given as goal

abbrev pub decreases-few_have_twins : goal.decreases-few_have_twins
decreases-few_have_twins l = length l.pairs.now
