use Rattle.std.proofs.Common.{◌≡◌, ◌+◌, ◌-◌, ◌++◌, ◌∷◌, [], length, subst, arith}
use Rattle.feature_journal.specs.Held.{HeldClosed}
use Rattle.feature_journal.proofs.Pairs.{held_still}
use Rattle.feature_journal.proofs.journal.Journal.append.Goals as goal

pub returns-then-sum-self-clause-goes : goal.returns-then-sum-self-clause-goes
returns-then-sum-self-clause-goes g c bodies rests =
    held_still g.D.Disk.moment g.D.Disk.since g.D.Disk.images g.met.D.Disk.counts g.met.D.Disk.only c.args.self.now.second_side _ _ bodies c.args.body.now c.args.self.now.disks rests.held

pub returns-in-Done-clause-done : goal.returns-in-Done-clause-done
returns-in-Done-clause-done g c bodies rests =
    let gate : c.args.self.now.gate + 5 + length c.args.body.now ≡ c.args.self.now.gate + 6 + length c.args.body.now - 1 = omega arith in
    record {
      begun = rests.begun;
      held = subst (λ n. HeldClosed g.D.Disk.images c.args.self.now.second_side c.args.self.now.generation n (bodies ++ c.args.body.now ∷ []) c.append_to.new.disks) gate (c.in-Done.ensures.now c.args.self.now.generation bodies rests.held);
      within = omega arith;
      limit = rests.limit;
    }
