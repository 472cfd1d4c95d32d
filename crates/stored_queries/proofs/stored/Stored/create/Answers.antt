use Rattle.wfs_model.specs.Stored.{built_in}
use Rattle.stored_queries.proofs.stored.Stored.create.Goals as goal

pub returns-in-Some-clause-value : goal.returns-in-Some-clause-value
returns-in-Some-clause-value c =
    let known = rw (c.as_slice.ensures.value, c.items.ensures) at (c.in-Some.ensures.1 built_in) in
    λ other. rw (← c.self.view_is, c.id_at.ensures built_in) known
