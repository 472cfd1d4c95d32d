use Rattle.feature_journal.proofs.Pairs.{held_says, begun_says}
use Rattle.feature_journal.proofs.NextSide.{side_says}
use Rattle.feature_journal.proofs.laws.stands.Goals as goal

pub returns-clause-rests : goal.returns-clause-rests
returns-clause-rests g c bodies rests = held_says g.D.Disk.images c.args.journal.now.second_side _ _ bodies c.args.journal.now.disks rests.held

pub returns-clause-begun : goal.returns-clause-begun
returns-clause-begun g c bodies body began = begun_says g.D.Disk.images c.args.journal.now.second_side _ _ bodies body c.args.journal.now.disks began.fits began.held

pub returns-clause-side : goal.returns-clause-side
returns-clause-side g c bodies added begun =
    let now = c.args.journal.now in
    side_says g.D.Disk.images now.second_side now.generation bodies added now.disks begun.list begun.next begun.ends begun.beside
