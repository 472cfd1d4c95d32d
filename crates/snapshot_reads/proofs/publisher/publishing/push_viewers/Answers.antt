use Rattle.std.proofs.Common.{List, subst, sym}
use Rattle.snapshot_reads.specs.declared.rule.Knows.{Knows}
use Rattle.snapshot_reads.specs.declared.shown.Shown.{Shown}
use Rattle.snapshot_reads.specs.Whole.{Sound}
use Rattle.snapshot_reads.proofs.publisher.publishing.push_viewers.Goals as goal

pub returns-clause-sound : goal.returns-clause-sound
returns-clause-sound c =
    let same = c.loop.invariant in
    subst (λ (t : Shown × List Shown × Knows). Sound c.args.seen.now.log c.args.seen.now.book t.0 t.1 t.2) (λ i. (sym same.3 i, sym same.4 i, sym same.5 i)) c.requires.sound
