use Rattle.std.proofs.Common.{◌+◌, [], ◌∷◌, ◌++◌, not, inl, inr, refl}
use Rattle.disk_core.proofs.Runs.{goes_more}
use Rattle.feature_journal.specs.Side.{Gate}
use Rattle.feature_journal.specs.Whole.{HarmlessOr}
use Rattle.feature_journal.specs.Making.{inner}
use Rattle.feature_journal.proofs.NextSide.{both_goes}
use Rattle.feature_journal.proofs.journal.Journal.repair.Goals as goal

pub set_first-requires : goal.set_first-requires
set_first-requires g c = elim c.requires [
  | inl r ↦ absurd (cc (r.1.begun, c.in-Side.is))
  | inr rest ↦ elim rest [
    | inl r ↦ absurd (cc (r.2.begun, c.in-Side.is))
    | inr r ↦ (inner (c.args.self.now.generation + 1) r.1 ++ 0 ∷ [], r.2.beside)
  ]
]

pub returns-in-Ok-clause-done : goal.returns-in-Ok-clause-done
returns-in-Ok-clause-done g c bodies body began = record {
  begun = refl;
  held = c.in-Ok.ensures.closed _ bodies body began.held;
  within = began.within;
  limit = began.limit;
}

pub returns-in-Err-clause-fault : goal.returns-in-Err-clause-fault
returns-in-Err-clause-fault g c bodies body began = record {
  begun = began.begun;
  held = c.repair_to.ensures.still _ bodies body began.held;
  fits = began.fits;
  within = began.within;
  limit = began.limit;
}

pub returns-in-Ok-set_first-clause-goes_side : goal.returns-in-Ok-set_first-clause-goes_side
returns-in-Ok-set_first-clause-goes_side g c bodies added begun =
    let now = c.args.self.now in
    let text = inner (now.generation + 1) added ++ 0 ∷ [] in
    both_goes g.D.Disk.moment g.D.Disk.since g.D.Disk.images g.met.D.Disk.counts g.met.D.Disk.only now.second_side now.generation bodies added _ _ begun.list begun.next begun.ends
    (goes_more g.D.Disk.moment g.D.Disk.since g.D.Disk.images (Gate [] text) (HarmlessOr (not now.second_side) now.generation (Gate [] text)) _ _ (λ image gate. inr gate) (c.set_first.ensures.goes text begun.beside)) c.set_first.ensures.same

pub returns-in-Err-set_first-clause-goes_side : goal.returns-in-Err-set_first-clause-goes_side
returns-in-Err-set_first-clause-goes_side g c bodies added begun =
    let now = c.args.self.now in
    let text = inner (now.generation + 1) added ++ 0 ∷ [] in
    both_goes g.D.Disk.moment g.D.Disk.since g.D.Disk.images g.met.D.Disk.counts g.met.D.Disk.only now.second_side now.generation bodies added _ _ begun.list begun.next begun.ends
    (goes_more g.D.Disk.moment g.D.Disk.since g.D.Disk.images (Gate [] text) (HarmlessOr (not now.second_side) now.generation (Gate [] text)) _ _ (λ image gate. inr gate) (c.set_first.ensures.goes text begun.beside)) c.set_first.ensures.same
