use Rattle.std.proofs.Common.{[], ◌∷◌, IfSome, IsTrue, ◌↔◌, sym, subst}
use Rattle.disk_core.specs.Disk.{Begins}
use Rattle.disk_core.proofs.Runs.{goes_on}
use Rattle.disk_core.proofs.Seen.{if_some, ok_more, reads_written}
use Rattle.feature_journal.specs.Whole.{Harmless}
use Rattle.feature_journal.proofs.Idle.{idle_same, goes_same, idle_torn, goes_torn, unshut_of, zero_over}
use Rattle.feature_journal.proofs.making.zero_first.Goals as goal

pub returns-in_err-reads_zero-clause-goes : goal.returns-in_err-reads_zero-clause-goes
returns-in_err-reads_zero-clause-goes g c is_b generation idle = goes_same g.D.Disk.moment g.D.Disk.since g.D.Disk.images is_b generation _ _ c.reads_zero.ensures.crash idle

pub returns-in_err-reads_zero-clause-still : goal.returns-in_err-reads_zero-clause-still
returns-in_err-reads_zero-clause-still g c is_b generation idle = idle_same g.D.Disk.moment g.D.Disk.since g.D.Disk.images is_b generation _ _ c.reads_zero.ensures.crash idle

pub returns-then-branch-clause-goes : goal.returns-then-branch-clause-goes
returns-then-branch-clause-goes g c is_b generation idle = goes_same g.D.Disk.moment g.D.Disk.since g.D.Disk.images is_b generation _ _ c.reads_zero.ensures.crash idle

pub returns-then-branch-clause-still : goal.returns-then-branch-clause-still
returns-then-branch-clause-still g c is_b generation idle = idle_same g.D.Disk.moment g.D.Disk.since g.D.Disk.images is_b generation _ _ c.reads_zero.ensures.crash idle

pub returns-clause-goes : goal.returns-clause-goes
returns-clause-goes g c is_b generation idle =
    let says = subst (λ o. IfSome o (λ s. IsTrue c.in_ok-reads_zero.field-0 ↔ Begins (0 ∷ []) s)) (sym c.reads_zero.ensures.same) c.in_ok-reads_zero.ensures.zero in
    let unshut = unshut_of g.D.Disk.shown g.D.Disk.images g.met.D.Disk.reads g.met.D.Disk.tells c.reads_zero.new.disk c.in_ok-reads_zero.field-0 c.if-branch.false says in
    goes_on g.D.Disk.moment g.D.Disk.since g.D.Disk.images (Harmless is_b generation []) c.args.disk.now c.reads_zero.new.disk c.write_at.new.self
    (goes_same g.D.Disk.moment g.D.Disk.since g.D.Disk.images is_b generation c.args.disk.now c.reads_zero.new.disk c.reads_zero.ensures.crash idle)
    (goes_torn g.D.Disk.moment g.D.Disk.since g.D.Disk.images is_b generation c.reads_zero.new.disk c.write_at.new.self unshut c.write_at.ensures.crash
    (idle_same g.D.Disk.moment g.D.Disk.since g.D.Disk.images is_b generation c.args.disk.now c.reads_zero.new.disk c.reads_zero.ensures.crash idle))

pub returns-clause-still : goal.returns-clause-still
returns-clause-still g c is_b generation idle =
    let says = subst (λ o. IfSome o (λ s. IsTrue c.in_ok-reads_zero.field-0 ↔ Begins (0 ∷ []) s)) (sym c.reads_zero.ensures.same) c.in_ok-reads_zero.ensures.zero in
    let unshut = unshut_of g.D.Disk.shown g.D.Disk.images g.met.D.Disk.reads g.met.D.Disk.tells c.reads_zero.new.disk c.in_ok-reads_zero.field-0 c.if-branch.false says in
    idle_torn g.D.Disk.moment g.D.Disk.since g.D.Disk.images is_b generation c.reads_zero.new.disk c.write_at.new.self unshut c.write_at.ensures.crash
    (idle_same g.D.Disk.moment g.D.Disk.since g.D.Disk.images is_b generation c.args.disk.now c.reads_zero.new.disk c.reads_zero.ensures.crash idle)

pub returns-clause-zero : goal.returns-clause-zero
returns-clause-zero g c = ok_more c.write_at.result _ _ (λ done. reads_written 0 (0 ∷ []) _ _ (λ s. Unit {0}) (Begins (0 ∷ [])) (λ s any. zero_over s) done (if_some _ (λ s. Unit {0}) (λ s e. tt))) c.write_at.ensures.done
