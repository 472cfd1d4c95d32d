use Rattle.std.proofs.Common.{rules, refl, ◌∙◌}
use Rattle.wfs_ends.proofs.Buffering.{passed_next, grows_next}
use Rattle.wfs_ends.proofs.Given.{grows_none, keeps_none, keeps_on}
use Rattle.wfs_ends.proofs.buffer.Buffer.pass_on.Goals as goal

pub returns-in_err-self-inside-clause-keeps : goal.returns-in_err-self-inside-clause-keeps
returns-in_err-self-inside-clause-keeps g c = keeps_on _ _ _ c.loop-self.invariant.4 c.put.ensures.keeps

pub loop-self-preserved : goal.loop-self-preserved
loop-self-preserved g c = (search rules, c.loop-self.invariant.1, passed_next _ _ c.loop-self.self-inside.bytes.items c.loop-self.self-inside.sent c.in_ok-self-inside.field-0 (search rules) ∙ c.loop-self.invariant.2, grows_next _ _ _ _ c.loop-self.invariant.3 c.in_ok-self-inside.ensures.appended, keeps_on _ _ _ c.loop-self.invariant.4 c.put.ensures.keeps, search rules)

pub loop-self-init : goal.loop-self-init
loop-self-init g c = (search rules, search rules, search rules, grows_none _, keeps_none _, refl)
