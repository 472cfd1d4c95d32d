-- The one seat is of the opening of the store, and its viewer of what was published first.
use Rattle.std.proofs.Common.{◌≡◌, ◌∷◌, [], ap, ◌∙◌}
use Rattle.shared_store.specs.declared.counter.Counter.{Counter}
use Rattle.shared_store.specs.Knowing.{Known}
use Rattle.turnstile_core.specs.Seats.{past}
use Rattle.wfs_store.specs.Held.{Held}
use Rattle.worker_rows.proofs.OneSeat.{is_open, all_new, may_serve}
use Rattle.worker_rows.proofs.rows.turns.work_by_turns.Goals as goal

pub work_at-first-requires-clause-opening : goal.work_at-first-requires-clause-opening
work_at-first-requires-clause-opening g c =
    let schema = ap (λ (h : Held g.row.D.Denot). h.schema) c.of.ensures.store ∙ c.requires.schema in
    let tally = ap (λ (h : Held g.row.D.Denot). h.tally) c.of.ensures.store ∙ c.requires.fresh.1 in
    is_open c.args.schema.now c.of.result (past c.in-Ok-new.first) c.in-Ok-new.ensures.seat schema c.requires.rules tally

pub work_at-first-requires-clause-viewer : goal.work_at-first-requires-clause-viewer
work_at-first-requires-clause-viewer g c =
    let first : Counter g.row.D.Denot = c.of.result in
    let began : (past c.in-Ok-new.first).origin ≡ first ∷ [] = ap (λ (p : Known g.row.D.Denot). p.origin) c.in-Ok-new.ensures.seat in
    let new = all_new c.args.schema.now first c.in-Ok.publisher c.features.result.now.schema c.in-Ok.viewers.items c.of.ensures.publisher (c.features.ensures.schema ∙ c.requires.schema) c.in-Ok.ensures.viewers in
    may_serve c.args.schema.now first (past c.in-Ok-new.first) c.viewer_of-viewer.result began (c.viewer_of-viewer.ensures first.publisher.seen.book c.args.schema.now new)
