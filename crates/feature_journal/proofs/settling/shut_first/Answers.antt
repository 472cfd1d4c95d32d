use Rattle.disk_core.specs.Disk.{Every, Begins}
use Rattle.std.proofs.Common.{[], ◌∷◌}
use Rattle.feature_journal.proofs.Quieted.{ok_two, at_front, shut_stable}
use Rattle.feature_journal.proofs.settling.shut_first.Goals as goal

pub set_gate-requires : goal.set_gate-requires
set_gate-requires g c = at_front _

pub returns-clause-shut : goal.returns-clause-shut
returns-clause-shut g c = ok_two c.set_gate.result _ _ (Every (g.D.Disk.images c.set_gate.new.disk) (Begins (0 ∷ []))) (λ done stable. shut_stable _ _ _ done stable) c.set_gate.ensures.done c.set_gate.ensures.stable
