use Rattle.std.proofs.Common.{inl, inr, refl}
use Rattle.std.proofs.lemmas.Result.{on_ok_weaker, on_err_weaker}
use Rattle.disk_core.specs.Sides.Always.{once}
use Rattle.feature_journal.specs.Kept.{disks_of}
use Rattle.durable_journal.proofs.Changing.{ended, still_begun, ending_goes}
use Rattle.durable_journal.specs.Opened.{checkpoint_bodies}
use Rattle.durable_journal.proofs.Shorter.{just_held, shortening_goes}
use Rattle.durable_journal.proofs.shortening.shorten.Goals as goal

pub returns-in-Err-clause-fault : goal.returns-in-Err-clause-fault
returns-in-Err-clause-fault g c begun keeps =
    inr (refl, still_begun g.D.Disk.images c.args.features.now.schema c.args.features.now.kept c.args.journal.now c.repair.new.self (λ bodies rests. (c.in-Err.ensures.nothing bodies rests).1) c.in-Err.ensures.fault c.in-Err.ensures.fault_side begun keeps)

pub returns-in-Err-clause-goes : goal.returns-in-Err-clause-goes
returns-in-Err-clause-goes g c begun keeps =
    once _ _ (ending_goes g.D.Disk.moment g.D.Disk.since g.D.Disk.images g.met.D.Disk.counts g.met.D.Disk.only c.args.features.now.schema c.args.features.now.kept c.args.journal.now c.repair.new.self (λ bodies rests. (c.in-Err.ensures.nothing bodies rests).1) c.in-Err.ensures.goes c.in-Err.ensures.goes_side begun keeps)

pub returns-in-Ok-clause-holds : goal.returns-in-Ok-clause-holds
returns-in-Ok-clause-holds g c =
    on_ok_weaker c.make_checkpoint.result (λ rests. just_held g.D.Disk.images (checkpoint_bodies c.args.features.now.schema c.args.features.now.kept) c.make_checkpoint.new.journal rests) c.make_checkpoint.ensures.rests

pub returns-in-Ok-clause-fault : goal.returns-in-Ok-clause-fault
returns-in-Ok-clause-fault g c =
    on_err_weaker c.make_checkpoint.result (λ fault begun keeps. inl (fault (ended g.D.Disk.images c.args.features.now.schema c.args.features.now.kept c.args.journal.now c.repair.new.self (λ bodies rests. (c.in-Ok.ensures.nothing bodies rests).1) c.in-Ok.ensures.done c.in-Ok.ensures.done_side begun keeps))) c.make_checkpoint.ensures.fault

pub returns-in-Ok-clause-goes : goal.returns-in-Ok-clause-goes
returns-in-Ok-clause-goes g c begun keeps =
    shortening_goes g.D.Disk.moment g.D.Disk.since c.args.features.now.schema c.args.features.now.kept begun (disks_of c.args.journal.now) (disks_of c.repair.new.self) (disks_of c.make_checkpoint.new.journal)
    (ending_goes g.D.Disk.moment g.D.Disk.since g.D.Disk.images g.met.D.Disk.counts g.met.D.Disk.only c.args.features.now.schema c.args.features.now.kept c.args.journal.now c.repair.new.self (λ bodies rests. (c.in-Ok.ensures.nothing bodies rests).1) c.in-Ok.ensures.goes c.in-Ok.ensures.goes_side begun keeps) c.make_checkpoint.ensures.goes
