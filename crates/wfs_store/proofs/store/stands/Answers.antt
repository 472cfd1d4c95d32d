-- The journal stands for what the history leaves.
use Rattle.std.proofs.Common.{subst}
use Rattle.disk_core.specs.Sides.{EveryBoth}
use Rattle.durable_journal.specs.Standing.{SaysWith}
use Rattle.feature_journal.specs.Kept.{disks_of}
use Rattle.wfs_model.specs.State.{State, durable}
use Rattle.wfs_store.proofs.store.stands.Goals as goal

pub returns : goal.returns
returns g c =
    let store = c.store.inside in
    let there = c.stands.ensures store.course.state.schema (durable store.course.state.state) store.begun c.store.invariant.keeps in
    rw (← c.store.view_is)
    (subst (λ (s : State). EveryBoth g.D.Disk.images (SaysWith store.course.state.schema (durable s) store.begun) (disks_of store.journal)) c.store.invariant.memory.past.state there)
