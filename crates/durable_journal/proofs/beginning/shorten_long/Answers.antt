use Rattle.std.proofs.Common.{arith}
use Rattle.durable_journal.proofs.OpeningSides.{room_kept, room_made}
use Rattle.durable_journal.proofs.Shorter.{still_goes}
use Rattle.durable_journal.proofs.beginning.shorten_long.Goals as goal

pub returns-then-side_length-le-LONGEST_KEPT-clause-goes :
    goal.returns-then-side_length-le-LONGEST_KEPT-clause-goes
returns-then-side_length-le-LONGEST_KEPT-clause-goes g c =
    still_goes g.D.Disk.moment g.D.Disk.since g.D.Disk.images g.met.D.Disk.counts g.met.D.Disk.only c.args.features.now.schema c.args.features.now.kept c.args.journal.now c.requires.holds

pub returns-then-side_length-le-LONGEST_KEPT-clause-room : goal.returns-then-side_length-le-LONGEST_KEPT-clause-room
returns-then-side_length-le-LONGEST_KEPT-clause-room g c =
    let few = c.if-side_length-le-LONGEST_KEPT.true in
    room_kept g.D.Disk.images c.args.features.now.schema c.args.features.now.kept c.args.journal.now c.side_length.result c.side_length.ensures (omega (arith, few))

pub returns-in-Ok-clause-room : goal.returns-in-Ok-clause-room
returns-in-Ok-clause-room g c =
    let over = c.if-side_length-le-LONGEST_KEPT.false in
    room_made g.D.Disk.images c.args.features.now.schema c.args.features.now.kept c.args.journal.now c.side_length.result c.side_length.ensures c.make_checkpoint.new.journal (omega (arith, over)) c.in-Ok.ensures.turned c.in-Ok.ensures.rests
