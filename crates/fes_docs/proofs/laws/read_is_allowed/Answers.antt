use Rattle.fes_docs.proofs.Judged.{filters_are_allowed}
use Rattle.fes_docs.proofs.laws.read_is_allowed.Goals as goal

pub returns : goal.returns
returns c = filters_are_allowed
