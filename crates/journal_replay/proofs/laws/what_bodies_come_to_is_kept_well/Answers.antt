use Rattle.journal_replay.proofs.Restoring.{replayed_restorable}
use Rattle.journal_replay.proofs.laws.what_bodies_come_to_is_kept_well.Goals as goal

pub returns : goal.returns
returns c = replayed_restorable
