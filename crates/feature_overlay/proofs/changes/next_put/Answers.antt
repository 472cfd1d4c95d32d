use Rattle.feature_overlay.proofs.Rising.{first_in_range}
use Rattle.feature_overlay.proofs.changes.next_put.Goals as goal

pub returns : goal.returns
returns c =
    rw (c.first_put.ensures, c.range.ensures.between tt, c.start_of.ensures) (first_in_range c.args.after c.args.changes.now.entries c.requires c.range.ensures.ordered)
