use Rattle.std.proofs.Common.{[], refl}
use Rattle.feature_journal.proofs.Idle.{cleared_goes, filled_goes, made_goes}
use Rattle.feature_journal.proofs.Quieted.{at_front}
use Rattle.feature_journal.proofs.making.make_on.Goals as goal

pub set_gate-requires : goal.set_gate-requires
set_gate-requires g c = at_front _

pub returns-in-Err-clause-goes : goal.returns-in-Err-clause-goes
returns-in-Err-clause-goes g c is_b generation idle = cleared_goes g.D.Disk.moment g.D.Disk.since g.D.Disk.images is_b generation c.args.text.now _ _ (c.clear_on.ensures.goes is_b generation idle)

pub returns-in-Err-fill_on-clause-goes : goal.returns-in-Err-fill_on-clause-goes
returns-in-Err-fill_on-clause-goes g c is_b generation idle =
    filled_goes g.D.Disk.moment g.D.Disk.since g.D.Disk.images is_b generation c.args.text.now c.args.disk.now c.clear_on.new.disk c.fill_on.new.disk (c.clear_on.ensures.goes is_b generation idle) c.in-Ok.ensures.cleared c.fill_on.ensures.kept

pub returns-in-Err-set_gate-clause-goes : goal.returns-in-Err-set_gate-clause-goes
returns-in-Err-set_gate-clause-goes g c is_b generation idle =
    let filled = filled_goes g.D.Disk.moment g.D.Disk.since g.D.Disk.images is_b generation c.args.text.now c.args.disk.now c.clear_on.new.disk c.fill_on.new.disk (c.clear_on.ensures.goes is_b generation idle) c.in-Ok.ensures.cleared c.fill_on.ensures.kept in
    made_goes g.D.Disk.moment g.D.Disk.since g.D.Disk.images is_b generation c.args.text.now c.args.disk.now c.fill_on.new.disk c.set_gate.new.disk filled c.in-Ok-fill_on.ensures.filled c.set_gate.ensures.torn

pub returns-in-Ok-set_gate-clause-goes : goal.returns-in-Ok-set_gate-clause-goes
returns-in-Ok-set_gate-clause-goes g c is_b generation idle =
    let filled = filled_goes g.D.Disk.moment g.D.Disk.since g.D.Disk.images is_b generation c.args.text.now c.args.disk.now c.clear_on.new.disk c.fill_on.new.disk (c.clear_on.ensures.goes is_b generation idle) c.in-Ok.ensures.cleared c.fill_on.ensures.kept in
    made_goes g.D.Disk.moment g.D.Disk.since g.D.Disk.images is_b generation c.args.text.now c.args.disk.now c.fill_on.new.disk c.set_gate.new.disk filled c.in-Ok-fill_on.ensures.filled c.set_gate.ensures.torn

pub returns-in-Ok-set_gate-clause-now : goal.returns-in-Ok-set_gate-clause-now
returns-in-Ok-set_gate-clause-now g c is_b generation idle = c.in-Ok-set_gate.ensures.set [] c.args.text.now refl c.in-Ok-fill_on.ensures.filled
