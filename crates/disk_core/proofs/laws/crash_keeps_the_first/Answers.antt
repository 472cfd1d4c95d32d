use Rattle.disk_core.proofs.Crashes.{kept_synced, kept_first}
use Rattle.disk_core.proofs.laws.crash_keeps_the_first.Goals as goal

pub returns-clause-synced : goal.returns-clause-synced
returns-clause-synced c keep before after all = kept_synced keep before after all

pub returns-clause-never_synced : goal.returns-clause-never_synced
returns-clause-never_synced c keep steps all = kept_first keep steps all
