use Rattle.journal_format.proofs.Spelled.{one_spelling}
use Rattle.journal_format.proofs.laws.has_one_spelling.Goals as goal

pub returns : goal.returns
returns c = one_spelling
