use Rattle.std.proofs.Common.{◌∙◌, drop}
use Rattle.snapshot_reads.specs.Whole.{next_of}
use Rattle.snapshot_reads.proofs.Rules.{swaps}
use Rattle.snapshot_reads.proofs.Showing.{follows_same, knows_if}
use Rattle.snapshot_reads.proofs.steps.swap.Goals as goal

pub publish_as-next-requires : goal.publish_as-next-requires
publish_as-next-requires g c next is = swaps _ _ _ next (follows_same _ _ next _ _ c.loop.invariant.0 c.loop.invariant.1 is c.requires)

pub returns-in-Ok-clause-told : goal.returns-in-Ok-clause-told
returns-in-Ok-clause-told g c =
    let same = (λ i. (next_of (c.loop.invariant.0 i) (c.loop.invariant.1 i)).seen.book) ∙ c.requires.history in
    let now = c.loop.writer in
    let next = c.publish_as-next.result.0 in
    knows_if c.publish_as-next.result.1 _ now.desk.shown.value _ (drop now.behind now.log.items) (drop next.behind next.log.items) _ _ _ c.in-Ok.is c.publish_as-next.ensures.values c.publish_as-next.ensures.rule same
