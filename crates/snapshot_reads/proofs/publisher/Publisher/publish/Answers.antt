use Rattle.std.proofs.Common.{◌∙◌, sym, arith, drop, ◌∷◌, [], ◌<◌, length}
use Rattle.std.proofs.lemmas.Option.{slice_get_within}
use Rattle.left_right.specs.Sides.{view}
use Rattle.snapshot_reads.specs.Content.{content_of}
use Rattle.snapshot_reads.specs.Pairs.{pair}
use Rattle.snapshot_reads.specs.Rules.{pair_of}
use Rattle.snapshot_reads.proofs.Fronts.{last_get}
use Rattle.snapshot_reads.proofs.Showing.{sound_more}
use Rattle.snapshot_reads.proofs.publisher.Publisher.publish.Goals as goal

pub show-writer-requires-clause-sound : goal.show-writer-requires-clause-sound
show-writer-requires-clause-sound g c =
    let writer = c.in-Some.writer in
    let sound = c.args.self.now.sound writer (sym c.in-Some.ensures.value) in
    let some : 0 < length c.args.self.now.seen.log = omega (arith, c.args.self.now.long) in
    rw (c.add.ensures.log, c.add.ensures.book)
    (sound_more c.args.self.now.seen.log c.args.self.now.seen.book (pair c.args.front (content_of c.args.now.now) ∷ []) writer.desk.shown.value (drop writer.behind writer.log.items) (view writer.desk.place) some sound)

pub show-writer-requires-clause-given : goal.show-writer-requires-clause-given
show-writer-requires-clause-given g c = rw c.add.ensures.log (last_get c.args.self.now.seen.log c.args.front (pair c.args.front (content_of c.args.now.now)) c.requires.next)

pub show-writer-requires-clause-up : goal.show-writer-requires-clause-up
show-writer-requires-clause-up g c =
    let writer = c.in-Some.writer in
    let sound = c.args.self.now.sound writer (sym c.in-Some.ensures.value) in
    omega (arith, c.requires.next, slice_get_within c.args.self.now.seen.log writer.desk.shown.value.front (pair_of writer.desk.shown.value) sound.ready.given)

pub show-writer-requires-clause-alike : goal.show-writer-requires-clause-alike
show-writer-requires-clause-alike g c other is = c.args.self.now.alike other (sym c.take-other.ensures.value ∙ is) c.in-Some.writer (sym c.in-Some.ensures.value)
