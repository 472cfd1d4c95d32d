use Rattle.lock_table.proofs.holders.Holders.reserve.Goals as goal

pub returns-clause-same : goal.returns-clause-same
returns-clause-same c = λ f. c.reserve.ensures.entries.2 (f.kind, f.number)
