use Rattle.std.proofs.Common.{[]}
use Rattle.feature_journal.proofs.tests.make_side.Goals as goal

pub finish_side-requires : goal.finish_side-requires
finish_side-requires g c =
    let rests = c.requires.rests in
    (rests.0, _, c.in-Ok-add_record.ensures.added rests.0 [] (c.in-Ok.ensures.begun rests.0 rests.1))
