use Rattle.std.proofs.Common.{All, subst}
use Rattle.journal_format.specs.Numbers.{AreBytes}
use Rattle.journal_replay.proofs.PieceLemmas.{pieces_bytes}
use Rattle.journal_replay.proofs.bodies.Bodies.count.Goals as goal

pub returns-clause-bytes : goal.returns-clause-bytes
returns-clause-bytes c =
    let bytes : AreBytes c.self.inside.bytes.items = subst AreBytes c.as_slice.ensures.value c.are_bytes.ensures in
    subst (All AreBytes) c.self.view_is (pieces_bytes c.self.inside.lengths.items c.self.inside.bytes.items bytes)
