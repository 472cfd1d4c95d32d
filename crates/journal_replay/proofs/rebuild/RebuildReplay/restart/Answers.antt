use Rattle.std.proofs.Common.{Ok, refl, ap, ◌∙◌, sym}
use Rattle.journal_replay.proofs.Replaying.{none_taken}
use Rattle.journal_replay.proofs.rebuild.RebuildReplay.restart.Goals as goal

pub invariant_of-self : goal.invariant_of-self
invariant_of-self c = rw c.clear.ensures (record {
  signed = c.self.invariant.signed;
  begun = c.self.invariant.begun;
  schema = refl;
  come = none_taken c.self.inside.empty.schema ∙ ap Ok (sym c.self.invariant.begun);
})
