use Rattle.std.proofs.Common.{inr, refl}
use Rattle.wfsd_program.proofs.ending.say_ended.Goals as goal

pub returns-then-has_failed : goal.returns-then-has_failed
returns-then-has_failed g c = inr (record { some = rw c.if-has_failed.true at c.has_failed.ensures; status_is = refl; says = c.say.ensures })
