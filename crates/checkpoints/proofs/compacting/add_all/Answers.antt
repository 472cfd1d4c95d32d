use Rattle.std.proofs.Common.{List, ℕ, [], ◌∷◌, ap, sym, subst, ◌∙◌, ◌≡◌, Err}
use Rattle.disk_core.specs.Sides.Always.{once}
use Rattle.feature_journal.specs.Whole.{Says}
use Rattle.feature_journal.specs.Kept.{disks_of}
use Rattle.feature_journal.proofs.Knowing.{always_on}
use Rattle.checkpoints.specs.Source.{Gives}
use Rattle.checkpoints.specs.declared.fault.CompactFault.TheVariants as faults
use Rattle.checkpoints.proofs.Adding.{none_added, one_added, passes, all_fit, full_from}
use Rattle.checkpoints.proofs.compacting.add_all.Goals as goal

pub loop-journal-init : goal.loop-journal-init
loop-journal-init g c = none_added g.D.Disk.shown g.D.Disk.moment g.D.Disk.since g.D.Disk.images g.D.Disk.faults g.met.D.Disk.counts g.met.D.Disk.only c.args.journal.now (g.R.RecordSource.left c.args.records.now)

pub loop-journal-preserved : goal.loop-journal-preserved
loop-journal-preserved g c =
    let rest = g.R.RecordSource.left c.next_body.new.self in
    let left = g.R.RecordSource.left c.loop-journal.records in
    let first = subst (λ b. Gives b left c.next_body.new.into.items rest) c.in-Ok-true.field-0-test c.in-Ok-true.ensures.gives in
    one_added g.D.Disk.shown g.D.Disk.moment g.D.Disk.since g.D.Disk.images g.D.Disk.faults c.args.journal.now c.loop-journal.journal c.add_record.new.self (g.R.RecordSource.left c.args.records.now) left c.deref.result.now rest c.loop-journal.invariant
    (first ∙ ap (λ (l : List ℕ). l ∷ rest) (sym c.deref.ensures.value)) c.add_record.ensures.goes c.in-Ok.ensures.added c.add_record.ensures.same c.add_record.ensures.count

pub returns-in-Err-add_record-clause-goes : goal.returns-in-Err-add_record-clause-goes
returns-in-Err-add_record-clause-goes g c bodies m =
    let i = c.loop-journal.invariant in
    always_on g.D.Disk.moment g.D.Disk.since (Says (bodies ∷ [])) (disks_of c.args.journal.now) (disks_of c.loop-journal.journal) (disks_of c.add_record.new.self) (i.goes bodies m) (once _ _ (c.add_record.ensures.goes bodies i.added (i.makes bodies m)))

pub returns-in-Err-add_record-clause-full : goal.returns-in-Err-add_record-clause-full
returns-in-Err-add_record-clause-full g c sum e =
    let rest = g.R.RecordSource.left c.next_body.new.self in
    let left = g.R.RecordSource.left c.loop-journal.records in
    let first = subst (λ b. Gives b left c.next_body.new.into.items rest) c.in-Ok-true.field-0-test c.in-Ok-true.ensures.gives in
    let fault : c.fault_of.result ≡ faults.Full sum = cc in
    let full = c.add_record.ensures.full sum (c.in-Err-add_record.is ∙ ap Err (full_from c.in-Err-add_record.fault sum (sym c.fault_of.ensures ∙ fault))) in
    passes g.D.Disk.shown g.D.Disk.moment g.D.Disk.since g.D.Disk.images g.D.Disk.faults c.args.journal.now c.loop-journal.journal (g.R.RecordSource.left c.args.records.now) left c.deref.result.now rest sum c.requires.0 c.loop-journal.invariant c.requires.1
    (first ∙ ap (λ (l : List ℕ). l ∷ rest) (sym c.deref.ensures.value)) full.0 full.1

pub returns-in-Ok-false-clause-fits : goal.returns-in-Ok-false-clause-fits
returns-in-Ok-false-clause-fits g c =
    let rest = g.R.RecordSource.left c.next_body.new.self in
    let left = g.R.RecordSource.left c.loop-journal.records in
    let none = subst (λ b. Gives b left c.next_body.new.into.items rest) c.in-Ok-false.field-0-test c.in-Ok-false.ensures.gives in
    all_fit g.D.Disk.shown g.D.Disk.moment g.D.Disk.since g.D.Disk.images g.D.Disk.faults c.args.journal.now c.loop-journal.journal (g.R.RecordSource.left c.args.records.now) left c.requires.0 c.loop-journal.invariant c.requires.1 none.0
