use Rattle.journal_format.proofs.record.put_body.Goals as goal

pub returns-in-Created-clause-writable : goal.returns-in-Created-clause-writable
returns-in-Created-clause-writable c = rw c.in-Created.is (rw c.items-in-Created.ensures at c.put_counted-in-Created.ensures.writable)
