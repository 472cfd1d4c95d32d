-- The store has the disks of the journal that was opened.
use Rattle.wfs_store.proofs.store.Store.start.Goals as goal

pub returns-in-Ok-open_journal-clause-goes : goal.returns-in-Ok-open_journal-clause-goes
returns-in-Ok-open_journal-clause-goes g c a b lists kept at_a at_b says come =
    rw c.begin.ensures.disks (c.in-Ok-open_journal.ensures.goes a b lists kept at_a at_b says come)

pub returns-in-Ok-open_journal-clause-first : goal.returns-in-Ok-open_journal-clause-first
returns-in-Ok-open_journal-clause-first g c a b at_a at_b unmade_a unmade_b =
    rw c.begin.ensures.disks (c.in-Ok-open_journal.ensures.first a b at_a at_b unmade_a unmade_b)

pub returns-in-Ok-open_journal-clause-side : goal.returns-in-Ok-open_journal-clause-side
returns-in-Ok-open_journal-clause-side g c a b at_a at_b =
    rw (c.begin.ensures.disks, c.begin.ensures.side, c.begin.ensures.turned) (c.in-Ok-open_journal.ensures.side a b at_a at_b)
