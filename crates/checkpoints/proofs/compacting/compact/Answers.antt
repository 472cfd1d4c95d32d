use Rattle.std.proofs.Common.{ℕ, ◌+◌, inl, ap, not, ◌∙◌}
use Rattle.disk_core.specs.Sides.Always.{once, then as link}
use Rattle.feature_journal.specs.Kept.{disks_of}
use Rattle.checkpoints.proofs.Adding.{alone_still, rest_goes, begun_goes, added_goes, finished_goes, made_is}
use Rattle.checkpoints.proofs.compacting.compact.Goals as goal

pub returns-then-generation-eq18446744073709551615-clause-goes :
    goal.returns-then-generation-eq18446744073709551615-clause-goes
returns-then-generation-eq18446744073709551615-clause-goes g c bodies rests = rest_goes g.D.Disk.moment g.D.Disk.since g.D.Disk.images bodies (g.R.RecordSource.left c.args.records.now) g.met.D.Disk.counts g.met.D.Disk.only c.args.journal.now rests

pub returns-in-Err-clause-goes : goal.returns-in-Err-clause-goes
returns-in-Err-clause-goes g c bodies rests = begun_goes g.D.Disk.moment g.D.Disk.since g.D.Disk.images bodies (g.R.RecordSource.left c.args.records.now) (disks_of c.args.journal.now) (disks_of c.begin_side.new.self) (c.begin_side.ensures.goes bodies rests)

pub returns-in-Err-add_all-clause-goes : goal.returns-in-Err-add_all-clause-goes
returns-in-Err-add_all-clause-goes g c bodies rests =
    added_goes g.D.Disk.moment g.D.Disk.since g.D.Disk.images bodies (g.R.RecordSource.left c.args.records.now) (disks_of c.args.journal.now) (disks_of c.begin_side.new.self) (disks_of c.add_all.new.journal) (c.begin_side.ensures.goes bodies rests) (c.add_all.ensures.goes bodies (c.in-Ok.ensures.begun bodies rests))

pub returns-in-Err-finish_side-clause-goes : goal.returns-in-Err-finish_side-clause-goes
returns-in-Err-finish_side-clause-goes g c bodies rests =
    let begun = c.in-Ok.ensures.begun bodies rests in
    finished_goes g.D.Disk.moment g.D.Disk.since g.D.Disk.images bodies (g.R.RecordSource.left c.args.records.now) (disks_of c.args.journal.now) (disks_of c.begin_side.new.self) (disks_of c.add_all.new.journal) (disks_of c.finish_side.new.self) (c.begin_side.ensures.goes bodies rests) (c.add_all.ensures.goes bodies begun)
    (c.finish_side.ensures.goes bodies (g.R.RecordSource.left c.args.records.now) (c.in-Ok-add_all.ensures.added bodies begun))

pub returns-in-Ok-finish_side-clause-goes : goal.returns-in-Ok-finish_side-clause-goes
returns-in-Ok-finish_side-clause-goes g c bodies rests =
    let begun = c.in-Ok.ensures.begun bodies rests in
    finished_goes g.D.Disk.moment g.D.Disk.since g.D.Disk.images bodies (g.R.RecordSource.left c.args.records.now) (disks_of c.args.journal.now) (disks_of c.begin_side.new.self) (disks_of c.add_all.new.journal) (disks_of c.finish_side.new.self) (c.begin_side.ensures.goes bodies rests) (c.add_all.ensures.goes bodies begun)
    (c.finish_side.ensures.goes bodies (g.R.RecordSource.left c.args.records.now) (c.in-Ok-add_all.ensures.added bodies begun))

pub returns-in-Ok-finish_side-clause-turned : goal.returns-in-Ok-finish_side-clause-turned
returns-in-Ok-finish_side-clause-turned g c =
    let turned = c.in-Ok-finish_side.ensures.turned in
    let first = c.begin_side.ensures.same in
    let more = c.add_all.ensures.same in
    let makes = c.in-Ok-add_all.ensures.added c.requires.0 (c.in-Ok.ensures.begun c.requires.0 c.requires.1) in (
      turned.0 ∙ ap not (more.second ∙ first.second),
      turned.1 ∙ ap (λ (n : ℕ). n + 1) (more.generation ∙ first.generation),
      turned.2 ∙ made_is g.D.Disk.shown g.D.Disk.moment g.D.Disk.since g.D.Disk.images g.D.Disk.faults c.requires.0 (g.R.RecordSource.left c.args.records.now) c.add_all.new.journal makes,
      turned.3 ∙ more.limit ∙ first.limit,
    )

pub returns-then-generation-eq18446744073709551615-clause-reaches : goal.returns-then-generation-eq18446744073709551615-clause-reaches
returns-then-generation-eq18446744073709551615-clause-reaches g c bodies rests =
    inl (alone_still g.D.Disk.moment g.D.Disk.since g.D.Disk.images bodies (g.R.RecordSource.left c.args.records.now) g.met.D.Disk.counts g.met.D.Disk.only c.args.journal.now rests)

pub returns-in-Err-clause-reaches : goal.returns-in-Err-clause-reaches
returns-in-Err-clause-reaches g c bodies rests = inl (once _ _ (c.begin_side.ensures.goes bodies rests))

pub returns-in-Err-add_all-clause-reaches : goal.returns-in-Err-add_all-clause-reaches
returns-in-Err-add_all-clause-reaches g c bodies rests =
    inl (link _ _ _ (c.begin_side.ensures.goes bodies rests) (c.add_all.ensures.goes bodies (c.in-Ok.ensures.begun bodies rests)))
