use Rattle.feature_journal.proofs.Refused.{refused_first, refused_second}
use Rattle.feature_journal.proofs.laws.refuses_foreign_sides.Goals as goal

pub returns-clause-first : goal.returns-clause-first
returns-clause-first c = refused_first

pub returns-clause-second : goal.returns-clause-second
returns-clause-second c = refused_second
