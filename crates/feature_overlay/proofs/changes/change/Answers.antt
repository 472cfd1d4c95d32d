use Rattle.feature_overlay.specs.Changed.{IsOf, FitsIf}
use Rattle.feature_overlay.proofs.Mapped.{change_put, all_put}
use Rattle.feature_overlay.proofs.changes.change.Goals as goal

pub returns-in-Ok-clause-ok : goal.returns-in-Ok-clause-ok
returns-in-Ok-clause-ok c =
    change_put c.args.id c.args.now c.args.changes.now.entries c.insert.new.self.entries (λ q. rw c.key_of.ensures at (c.in-Ok.ensures.updates.0 q))

pub returns-in-Ok-clause-keyed : goal.returns-in-Ok-clause-keyed
returns-in-Ok-clause-keyed c of keyed =
    rw (c.in-Ok.ensures.entries, c.key_of.ensures) (all_put IsOf c.args.id c.args.now c.args.changes.now.entries of keyed)

pub returns-in-Ok-clause-fitting : goal.returns-in-Ok-clause-fitting
returns-in-Ok-clause-fitting c schema fits fitting =
    rw (c.in-Ok.ensures.entries, c.key_of.ensures) (all_put (λ id now. FitsIf schema now) c.args.id c.args.now c.args.changes.now.entries fits fitting)
