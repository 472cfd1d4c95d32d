-- What was kept is kept behind a compaction, whatever it came to.
use Rattle.std.proofs.Common.{◌⊎◌, inl, inr, None}
use Rattle.store_rows.proofs.held.is_shortened.Goals as goal

either_way : {A B : Type 0} → A ⊎ (B × A) → A
either_way (inl a) = a
either_way (inr both) = both.1

pub returns-in-Err-clause-keeps : goal.returns-in-Err-clause-keeps
returns-in-Err-clause-keeps g c = either_way (c.in-Err.ensures.fault None c.requires.keeps)
