use Rattle.std.proofs.Common.{◌≡◌, ◌+◌, ◌-◌, [], ◌∷◌, ◌++◌, length, subst, arith}
use Rattle.disk_core.specs.Sides.{spare}
use Rattle.feature_journal.specs.Whole.Idle.{idle_shut}
use Rattle.feature_journal.specs.Making.{Making}
use Rattle.feature_journal.proofs.Added.{shut_kept, shut_goes}
use Rattle.feature_journal.proofs.Pairs.{within_still, held_says}
use Rattle.feature_journal.proofs.NextSide.{spare_goes, beside_now}
use Rattle.feature_journal.proofs.journal.Journal.add_record.Goals as goal

pub returns-then-sum-self-clause-goes : goal.returns-then-sum-self-clause-goes
returns-then-sum-self-clause-goes g c bodies added makes = within_still g.D.Disk.moment g.D.Disk.since g.D.Disk.images g.met.D.Disk.counts g.met.D.Disk.only _ _ (held_says g.D.Disk.images _ _ _ bodies _ makes.rests.held)

pub returns-in-Ok-clause-goes : goal.returns-in-Ok-clause-goes
returns-in-Ok-clause-goes g c bodies added makes = spare_goes g.D.Disk.moment g.D.Disk.since g.D.Disk.images g.met.D.Disk.counts g.met.D.Disk.only _ _ _ bodies _ _ makes.rests.held (shut_goes g.D.Disk.moment g.D.Disk.since g.D.Disk.images _ _ _ _ makes.making.shut c.add_to.ensures.kept) c.add_to.ensures.same

pub returns-in-Ok-clause-rests : goal.returns-in-Ok-clause-rests
returns-in-Ok-clause-rests g c bodies added makes = record {
  begun = makes.rests.begun;
  held = beside_now g.D.Disk.images _ _ _ bodies _ _ makes.rests.held (idle_shut (shut_kept g.D.Disk.moment g.D.Disk.since g.D.Disk.images _ _ makes.making.shut c.add_to.ensures.kept)) c.add_to.ensures.same;
  within = makes.rests.within;
  limit = makes.rests.limit;
}

pub returns-in-Ok-clause-added : goal.returns-in-Ok-clause-added
returns-in-Ok-clause-added g c bodies added makes =
    let now = c.args.self.now in
    let place : now.made + 5 + length c.args.body.now ≡ now.made + 6 + length c.args.body.now - 1 = omega arith in
    record {
      rests = returns-in-Ok-clause-rests g c bodies added makes;
      making = subst (λ n. Making g.D.Disk.shown g.D.Disk.images (now.generation + 1) n (added ++ c.args.body.now ∷ []) (spare now.second_side c.add_to.new.disks)) place (c.in-Ok.ensures.added _ added makes.making);
      room = omega (arith, c.if-sum-self.false);
    }

pub returns-in-Err-clause-goes : goal.returns-in-Err-clause-goes
returns-in-Err-clause-goes g c bodies added makes = spare_goes g.D.Disk.moment g.D.Disk.since g.D.Disk.images g.met.D.Disk.counts g.met.D.Disk.only _ _ _ bodies _ _ makes.rests.held (shut_goes g.D.Disk.moment g.D.Disk.since g.D.Disk.images _ _ _ _ makes.making.shut c.add_to.ensures.kept) c.add_to.ensures.same

pub returns-in-Err-clause-rests : goal.returns-in-Err-clause-rests
returns-in-Err-clause-rests g c bodies added makes = record {
  begun = makes.rests.begun;
  held = beside_now g.D.Disk.images _ _ _ bodies _ _ makes.rests.held (idle_shut (shut_kept g.D.Disk.moment g.D.Disk.since g.D.Disk.images _ _ makes.making.shut c.add_to.ensures.kept)) c.add_to.ensures.same;
  within = makes.rests.within;
  limit = makes.rests.limit;
}
