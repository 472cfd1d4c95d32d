use Rattle.std.proofs.Common.{◌<◌, Some, sym, ◌∙◌, arith}
use Rattle.std.proofs.lemmas.List.Elements.{All-from_get_or}
use Rattle.feature_journal.specs.Kept.{seen, disks_of}
use Rattle.durable_journal.proofs.Changing.{ended, still_begun, ending_goes, appended, not_appended, begins, append_goes, tells_begun, tells_rests, disk_failed, first_goes, both_go}
use Rattle.durable_journal.proofs.recording.record_change.Goals as goal

pub returns-in-Err-clause-keeps : goal.returns-in-Err-clause-keeps
returns-in-Err-clause-keeps g c schema kept begun change keeps may =
    still_begun g.D.Disk.images schema kept c.args.journal.now c.repair.new.self (λ bodies rests. (c.in-Err.ensures.nothing bodies rests).1) c.in-Err.ensures.fault c.in-Err.ensures.fault_side begun keeps

pub returns-in-Err-clause-goes : goal.returns-in-Err-clause-goes
returns-in-Err-clause-goes g c schema kept begun change keeps may =
    first_goes g.D.Disk.moment g.D.Disk.since schema kept begun (Some change) (disks_of c.args.journal.now) (disks_of c.repair.new.self)
    (ending_goes g.D.Disk.moment g.D.Disk.since g.D.Disk.images g.met.D.Disk.counts g.met.D.Disk.only schema kept c.args.journal.now c.repair.new.self (λ bodies rests. (c.in-Err.ensures.nothing bodies rests).1) c.in-Err.ensures.goes c.in-Err.ensures.goes_side begun keeps)

pub returns-in-Ok-append-clause-keeps : goal.returns-in-Ok-append-clause-keeps
returns-in-Ok-append-clause-keeps g c schema kept begun change keeps may =
    let at = ended g.D.Disk.images schema kept c.args.journal.now c.repair.new.self (λ bodies rests. (c.in-Ok.ensures.nothing bodies rests).1) c.in-Ok.ensures.done c.in-Ok.ensures.done_side begun keeps in
    appended g.D.Disk.images schema kept change c.args.body.now may c.repair.new.self c.append.new.self at (All-from_get_or (λ b. b < 256) c.args.body.now 0 (λ i lt. (c.type_inv.body i).fits)) c.in-Ok-append.ensures.done

pub returns-in-Ok-append-clause-goes : goal.returns-in-Ok-append-clause-goes
returns-in-Ok-append-clause-goes g c schema kept begun change keeps may =
    let at = ended g.D.Disk.images schema kept c.args.journal.now c.repair.new.self (λ bodies rests. (c.in-Ok.ensures.nothing bodies rests).1) c.in-Ok.ensures.done c.in-Ok.ensures.done_side begun keeps in
    both_go g.D.Disk.moment g.D.Disk.since schema kept begun (Some change) (disks_of c.args.journal.now) (disks_of c.repair.new.self) (disks_of c.append.new.self)
    (ending_goes g.D.Disk.moment g.D.Disk.since g.D.Disk.images g.met.D.Disk.counts g.met.D.Disk.only schema kept c.args.journal.now c.repair.new.self (λ bodies rests. (c.in-Ok.ensures.nothing bodies rests).1) c.in-Ok.ensures.goes c.in-Ok.ensures.goes_side begun keeps)
    (append_goes g.D.Disk.images schema kept change c.args.body.now may c.repair.new.self c.append.new.self at g.D.Disk.moment g.D.Disk.since c.in-Ok-append.ensures.goes)

pub returns-then-is_begun-clause-keeps : goal.returns-then-is_begun-clause-keeps
returns-then-is_begun-clause-keeps g c schema kept begun change keeps may =
    let at = ended g.D.Disk.images schema kept c.args.journal.now c.repair.new.self (λ bodies rests. (c.in-Ok.ensures.nothing bodies rests).1) c.in-Ok.ensures.done c.in-Ok.ensures.done_side begun keeps in
    let is_disk = disk_failed c.in-Err-append.field-0 (λ sum is. let full = c.in-Err-append.ensures.full sum is in let same = c.in-Ok.ensures.same in omega (arith, full, same.length, same.limit, c.requires.fits)) in
    begins g.D.Disk.images schema kept change c.args.body.now may c.repair.new.self c.append.new.self at (tells_begun g.D.Disk.images c.args.body.now c.append.new.self (seen c.repair.new.self) (c.in-Err-append.ensures.fault is_disk) (sym c.is_begun.ensures ∙ c.if-is_begun.true))

pub returns-then-is_begun-clause-goes : goal.returns-then-is_begun-clause-goes
returns-then-is_begun-clause-goes g c schema kept begun change keeps may =
    let at = ended g.D.Disk.images schema kept c.args.journal.now c.repair.new.self (λ bodies rests. (c.in-Ok.ensures.nothing bodies rests).1) c.in-Ok.ensures.done c.in-Ok.ensures.done_side begun keeps in
    both_go g.D.Disk.moment g.D.Disk.since schema kept begun (Some change) (disks_of c.args.journal.now) (disks_of c.repair.new.self) (disks_of c.append.new.self)
    (ending_goes g.D.Disk.moment g.D.Disk.since g.D.Disk.images g.met.D.Disk.counts g.met.D.Disk.only schema kept c.args.journal.now c.repair.new.self (λ bodies rests. (c.in-Ok.ensures.nothing bodies rests).1) c.in-Ok.ensures.goes c.in-Ok.ensures.goes_side begun keeps)
    (append_goes g.D.Disk.images schema kept change c.args.body.now may c.repair.new.self c.append.new.self at g.D.Disk.moment g.D.Disk.since c.append.ensures.goes)

pub returns-else-is_begun-clause-keeps : goal.returns-else-is_begun-clause-keeps
returns-else-is_begun-clause-keeps g c schema kept begun change keeps may =
    let at = ended g.D.Disk.images schema kept c.args.journal.now c.repair.new.self (λ bodies rests. (c.in-Ok.ensures.nothing bodies rests).1) c.in-Ok.ensures.done c.in-Ok.ensures.done_side begun keeps in
    let is_disk = disk_failed c.in-Err-append.field-0 (λ sum is. let full = c.in-Err-append.ensures.full sum is in let same = c.in-Ok.ensures.same in omega (arith, full, same.length, same.limit, c.requires.fits)) in
    not_appended g.D.Disk.images schema kept change c.args.body.now may c.repair.new.self c.append.new.self at (tells_rests g.D.Disk.images c.args.body.now c.append.new.self (seen c.repair.new.self) (c.in-Err-append.ensures.fault is_disk) (sym c.is_begun.ensures ∙ c.if-is_begun.false))

pub returns-else-is_begun-clause-goes : goal.returns-else-is_begun-clause-goes
returns-else-is_begun-clause-goes g c schema kept begun change keeps may =
    let at = ended g.D.Disk.images schema kept c.args.journal.now c.repair.new.self (λ bodies rests. (c.in-Ok.ensures.nothing bodies rests).1) c.in-Ok.ensures.done c.in-Ok.ensures.done_side begun keeps in
    both_go g.D.Disk.moment g.D.Disk.since schema kept begun (Some change) (disks_of c.args.journal.now) (disks_of c.repair.new.self) (disks_of c.append.new.self)
    (ending_goes g.D.Disk.moment g.D.Disk.since g.D.Disk.images g.met.D.Disk.counts g.met.D.Disk.only schema kept c.args.journal.now c.repair.new.self (λ bodies rests. (c.in-Ok.ensures.nothing bodies rests).1) c.in-Ok.ensures.goes c.in-Ok.ensures.goes_side begun keeps)
    (append_goes g.D.Disk.images schema kept change c.args.body.now may c.repair.new.self c.append.new.self at g.D.Disk.moment g.D.Disk.since c.append.ensures.goes)
