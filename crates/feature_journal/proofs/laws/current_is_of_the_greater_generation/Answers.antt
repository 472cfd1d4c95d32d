use Rattle.feature_journal.proofs.Refused.{current_greater, current_tie, current_first, current_second, current_none}
use Rattle.feature_journal.proofs.laws.current_is_of_the_greater_generation.Goals as goal

pub returns-clause-greater : goal.returns-clause-greater
returns-clause-greater c = current_greater

pub returns-clause-not_greater : goal.returns-clause-not_greater
returns-clause-not_greater c = current_tie

pub returns-clause-first_alone : goal.returns-clause-first_alone
returns-clause-first_alone c = current_first

pub returns-clause-second_alone : goal.returns-clause-second_alone
returns-clause-second_alone c = current_second

pub returns-clause-neither : goal.returns-clause-neither
returns-clause-neither c = current_none
