use Rattle.std.proofs.Common.{◌+◌, [], ◌∷◌, ◌++◌, not, inr, ◌∙◌}
use Rattle.disk_core.specs.Sides.{spare}
use Rattle.disk_core.proofs.Runs.{goes_on, goes_more}
use Rattle.feature_journal.specs.Side.{Gate}
use Rattle.feature_journal.specs.Whole.{HarmlessOr}
use Rattle.feature_journal.specs.Making.{inner}
use Rattle.feature_journal.proofs.Added.{shut_goes}
use Rattle.feature_journal.proofs.Idle.{cleared_goes}
use Rattle.feature_journal.proofs.NextSide.{both_goes, turned}
use Rattle.feature_journal.proofs.journal.Journal.finish_side.Goals as goal

pub set_first-requires : goal.set_first-requires
set_first-requires g c = (inner (c.args.self.now.generation + 1) c.requires.1 ++ 0 ∷ [], c.in-Ok.ensures.closed _ c.requires.1 c.requires.2.making)

pub returns-in-Err-clause-goes : goal.returns-in-Err-clause-goes
returns-in-Err-clause-goes g c bodies added makes =
    let now = c.args.self.now in
    both_goes g.D.Disk.moment g.D.Disk.since g.D.Disk.images g.met.D.Disk.counts g.met.D.Disk.only now.second_side now.generation bodies added _ _ makes.rests.held.list makes.making.list makes.rests.held.ends
    (cleared_goes g.D.Disk.moment g.D.Disk.since g.D.Disk.images (not now.second_side) now.generation (inner (now.generation + 1) added ++ 0 ∷ []) _ _ (shut_goes g.D.Disk.moment g.D.Disk.since g.D.Disk.images _ _ _ _ makes.making.shut c.close_to.ensures.kept)) c.close_to.ensures.same

pub returns-in-Err-set_first-clause-goes : goal.returns-in-Err-set_first-clause-goes
returns-in-Err-set_first-clause-goes g c bodies added makes =
    let now = c.args.self.now in
    let text = inner (now.generation + 1) added ++ 0 ∷ [] in
    let P = HarmlessOr (not now.second_side) now.generation (Gate [] text) in
    both_goes g.D.Disk.moment g.D.Disk.since g.D.Disk.images g.met.D.Disk.counts g.met.D.Disk.only now.second_side now.generation bodies added _ _ makes.rests.held.list makes.making.list makes.rests.held.ends
    (goes_on g.D.Disk.moment g.D.Disk.since g.D.Disk.images P _ (spare now.second_side c.close_to.new.disks) _
    (cleared_goes g.D.Disk.moment g.D.Disk.since g.D.Disk.images (not now.second_side) now.generation text _ _ (shut_goes g.D.Disk.moment g.D.Disk.since g.D.Disk.images _ _ _ _ makes.making.shut c.close_to.ensures.kept))
    (goes_more g.D.Disk.moment g.D.Disk.since g.D.Disk.images (Gate [] text) P _ _ (λ image gate. inr gate) (c.set_first.ensures.goes text (c.in-Ok.ensures.closed _ added makes.making)))) (c.set_first.ensures.same ∙ c.close_to.ensures.same)

pub returns-in-Ok-set_first-clause-goes : goal.returns-in-Ok-set_first-clause-goes
returns-in-Ok-set_first-clause-goes g c bodies added makes =
    let now = c.args.self.now in
    let text = inner (now.generation + 1) added ++ 0 ∷ [] in
    let P = HarmlessOr (not now.second_side) now.generation (Gate [] text) in
    both_goes g.D.Disk.moment g.D.Disk.since g.D.Disk.images g.met.D.Disk.counts g.met.D.Disk.only now.second_side now.generation bodies added _ _ makes.rests.held.list makes.making.list makes.rests.held.ends
    (goes_on g.D.Disk.moment g.D.Disk.since g.D.Disk.images P _ (spare now.second_side c.close_to.new.disks) _
    (cleared_goes g.D.Disk.moment g.D.Disk.since g.D.Disk.images (not now.second_side) now.generation text _ _ (shut_goes g.D.Disk.moment g.D.Disk.since g.D.Disk.images _ _ _ _ makes.making.shut c.close_to.ensures.kept))
    (goes_more g.D.Disk.moment g.D.Disk.since g.D.Disk.images (Gate [] text) P _ _ (λ image gate. inr gate) (c.set_first.ensures.goes text (c.in-Ok.ensures.closed _ added makes.making)))) (c.set_first.ensures.same ∙ c.close_to.ensures.same)

pub returns-in-Ok-set_first-clause-done : goal.returns-in-Ok-set_first-clause-done
returns-in-Ok-set_first-clause-done g c bodies added makes =
    let now = c.args.self.now in
    let text = inner (now.generation + 1) added ++ 0 ∷ [] in
    record {
      begun = makes.rests.begun;
      held = turned g.D.Disk.images now.second_side now.generation now.made bodies added now.disks _ makes.making.list makes.making.size makes.rests.held.ends
          (c.in-Ok-set_first.ensures.set text (c.in-Ok.ensures.closed _ added makes.making)) (c.set_first.ensures.same ∙ c.close_to.ensures.same);
      within = makes.room;
      limit = makes.rests.limit;
    }
