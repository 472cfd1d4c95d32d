use Rattle.std.proofs.Common.{ℕ}
use Rattle.feature_journal.specs.Refused.{Able}
use Rattle.recovery.specs.Walk.{IsFile}
use Rattle.recovery.specs.Looked.{EndsAt}
use Rattle.recovery.proofs.Looking.{ok_files}
use Rattle.recovery.proofs.look.read_side.Goals as goal

pub returns-in-Ok-clause-ends : goal.returns-in-Ok-clause-ends
returns-in-Ok-clause-ends g c =
    ok_files c.ending_of.result (g.D.Disk.shown c.args.disk.now) (IsFile c.in-Ok.side) (λ e x. (generation : ℕ) → Able generation x → EndsAt e generation (g.R.Replay.taken c.ending_of.new.replay) x) c.in-Ok.ensures.file c.ending_of.ensures.ends
