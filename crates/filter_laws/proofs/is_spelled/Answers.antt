use Rattle.filter_laws.proofs.Spelled.{filters_are_spelled}
use Rattle.filter_laws.proofs.is_spelled.Goals as goal

pub returns : goal.returns
returns c = filters_are_spelled
