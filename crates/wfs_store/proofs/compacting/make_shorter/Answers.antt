-- What making the journal shorter comes to where nothing is ended, where no checkpoint is made, and where one is.
use Rattle.std.proofs.Common.{◌≡◌, ◌∙◌, ℕ, List, [], None, ap}
use Rattle.checkpoints.specs.Length.{side_length}
use Rattle.disk_core.specs.Sides.{Always}
use Rattle.durable_journal.specs.Current.{current_in, HoldsCheckpoint}
use Rattle.durable_journal.specs.Kept.{Keeps}
use Rattle.durable_journal.specs.Opened.{checkpoint_bodies}
use Rattle.durable_journal.specs.Standing.{SaysKept}
use Rattle.feature_journal.specs.Kept.{disks_of, generation_in, limit_of}
use Rattle.feature_values.specs.declared.schema.Schema.{Schema}
use Rattle.wfs_model.specs.State.{Durable, durable}
use Rattle.wfs_store.proofs.Shortened.{side_shown, stays, not_mended, not_shortened, done_shorter, same_on, rose_then, full_told, either_none}
use Rattle.wfs_store.proofs.compacting.make_shorter.Goals as goal

pub returns-in-Err-clause-compacted : goal.returns-in-Err-clause-compacted
returns-in-Err-clause-compacted g c bodies tally store =
    rw c.in-Err.ensures.begun (not_mended g.D.Disk.moment g.D.Disk.since g.D.Disk.images g.D.Disk.faults c.args.course.now c.args.journal.now bodies c.args.side.now c.args.begun.now tally c.requires.empty store c.mend.new.journal (c.mend.ensures.goes c.args.course.now.state.schema (durable c.args.course.now.state.state) store.keeps) c.mend.ensures.count c.in-Err.ensures.cause c.mend.ensures.same)

pub returns-in-Err-shorten-clause-store : goal.returns-in-Err-shorten-clause-store
returns-in-Err-shorten-clause-store g c bodies store =
    let tally : List ℕ = [] in
    let keeps : Keeps g.D.Disk.images c.features.result.now.schema c.features.result.now.kept None c.mend.new.journal = rw (c.features.ensures.schema, c.features.ensures.kept) (c.in-Ok.ensures.done c.args.course.now.state.schema (durable c.args.course.now.state.state) store.keeps) in
    let left : Keeps g.D.Disk.images c.features.result.now.schema c.features.result.now.kept None c.shorten.new.journal = either_none (c.in-Err-shorten.ensures.fault None keeps) in
    let there : Keeps g.D.Disk.images c.args.course.now.state.schema (durable c.args.course.now.state.state) None c.shorten.new.journal = rw (c.features.ensures.schema, c.features.ensures.kept) at left in
    rw c.in-Ok.ensures.ended (stays g.D.Disk.moment g.D.Disk.since g.D.Disk.images g.D.Disk.faults c.args.course.now c.args.journal.now bodies c.args.side.now c.args.begun.now tally c.requires.empty store c.shorten.new.journal None there
    (same_on c.args.journal.now c.mend.new.journal c.shorten.new.journal c.mend.ensures.same c.in-Err-shorten.ensures.same))

pub returns-in-Err-shorten-clause-compacted : goal.returns-in-Err-shorten-clause-compacted
returns-in-Err-shorten-clause-compacted g c bodies tally store =
    let keeps : Keeps g.D.Disk.images c.features.result.now.schema c.features.result.now.kept None c.mend.new.journal = rw (c.features.ensures.schema, c.features.ensures.kept) (c.in-Ok.ensures.done c.args.course.now.state.schema (durable c.args.course.now.state.state) store.keeps) in
    let goes : Always g.D.Disk.moment g.D.Disk.since (SaysKept c.args.course.now.state.schema (durable c.args.course.now.state.state)) (disks_of c.mend.new.journal) (disks_of c.shorten.new.journal) =
    rw (c.features.ensures.schema, c.features.ensures.kept) at (c.shorten.ensures.goes None keeps) in
    let told : checkpoint_bodies c.features.result.now.schema c.features.result.now.kept ≡ checkpoint_bodies c.args.course.now.state.schema (durable c.args.course.now.state.state) =
    ap (λ (s : Schema). checkpoint_bodies s c.features.result.now.kept) c.features.ensures.schema ∙ ap (λ (k : Durable). checkpoint_bodies c.args.course.now.state.schema k) c.features.ensures.kept in
    let full = full_told (generation_in c.args.journal.now) (generation_in c.mend.new.journal) (limit_of c.mend.new.journal) c.args.course.now.limits.side _ _ c.in-Err-shorten.fault
    c.mend.ensures.same.generation (c.mend.ensures.same.limit ∙ store.limit) told c.in-Err-shorten.ensures.full in
    let rose = rose_then g.D.Disk.faults (disks_of c.args.journal.now) (disks_of c.mend.new.journal) (disks_of c.shorten.new.journal) c.in-Err-shorten.fault c.mend.ensures.count c.in-Err-shorten.ensures.cause in
    rw (c.in-Ok.ensures.ended, c.from_compaction.ensures) (not_shortened g.D.Disk.moment g.D.Disk.since g.D.Disk.images g.D.Disk.faults c.args.course.now c.args.journal.now bodies c.args.side.now c.args.begun.now tally c.requires.empty store c.in-Err-shorten.fault c.mend.new.journal c.shorten.new.journal
    (c.mend.ensures.goes c.args.course.now.state.schema (durable c.args.course.now.state.state) store.keeps) goes full c.mend.ensures.count c.shorten.ensures.count rose
    (same_on c.args.journal.now c.mend.new.journal c.shorten.new.journal c.mend.ensures.same c.in-Err-shorten.ensures.same))

pub returns-in-Ok-shorten-clause-compacted : goal.returns-in-Ok-shorten-clause-compacted
returns-in-Ok-shorten-clause-compacted g c bodies tally store =
    let keeps : Keeps g.D.Disk.images c.features.result.now.schema c.features.result.now.kept None c.mend.new.journal = rw (c.features.ensures.schema, c.features.ensures.kept) (c.in-Ok.ensures.done c.args.course.now.state.schema (durable c.args.course.now.state.state) store.keeps) in
    let goes : Always g.D.Disk.moment g.D.Disk.since (SaysKept c.args.course.now.state.schema (durable c.args.course.now.state.state)) (disks_of c.mend.new.journal) (disks_of c.shorten.new.journal) =
    rw (c.features.ensures.schema, c.features.ensures.kept) at (c.shorten.ensures.goes None keeps) in
    let told : checkpoint_bodies c.features.result.now.schema c.features.result.now.kept ≡ checkpoint_bodies c.args.course.now.state.schema (durable c.args.course.now.state.state) =
    ap (λ (s : Schema). checkpoint_bodies s c.features.result.now.kept) c.features.ensures.schema ∙ ap (λ (k : Durable). checkpoint_bodies c.args.course.now.state.schema k) c.features.ensures.kept in
    let left : Keeps g.D.Disk.images c.features.result.now.schema c.features.result.now.kept None c.shorten.new.journal = c.in-Ok-shorten.ensures.keeps in
    let turned = c.in-Ok-shorten.ensures.turned in
    let holds : HoldsCheckpoint g.D.Disk.images (current_in c.shorten.new.journal) c.args.course.now.state.schema (durable c.args.course.now.state.state) (disks_of c.shorten.new.journal) =
    rw (c.features.ensures.schema, c.features.ensures.kept) at c.in-Ok-shorten.ensures.holds in
    rw c.in-Ok.ensures.ended (done_shorter g.D.Disk.moment g.D.Disk.since g.D.Disk.images g.D.Disk.faults c.args.course.now c.args.journal.now bodies c.args.side.now c.args.begun.now tally c.requires.empty store c.mend.new.journal c.shorten.new.journal c.side_length.result
    (c.mend.ensures.goes c.args.course.now.state.schema (durable c.args.course.now.state.state) store.keeps) goes
    (side_shown g.D.Disk.images c.features.result.now.schema c.features.result.now.kept c.shorten.new.journal c.args.course.now.limits c.side_length.result left
    (turned.3 ∙ c.mend.ensures.same.limit ∙ store.limit) c.side_length.ensures ∙ turned.2 ∙ ap side_length told)
    c.mend.ensures.count c.shorten.ensures.count c.mend.ensures.same turned.0 turned.1 holds)
