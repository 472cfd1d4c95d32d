use Rattle.lock_table.proofs.holders.Holders.shrink.Goals as goal

pub returns-then-capacity-len-clause-same : goal.returns-then-capacity-len-clause-same
returns-then-capacity-len-clause-same c = λ f. c.shrink_to_fit.ensures.entries.2 (f.kind, f.number)
