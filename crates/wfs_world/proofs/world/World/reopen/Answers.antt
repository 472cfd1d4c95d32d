use Rattle.std.proofs.Common.{◌≡◌, ◌+◌, sym, ◌∙◌, arith}
use Rattle.wfs_world.proofs.Openings.{reopened_runs}
use Rattle.wfs_world.proofs.world.World.reopen.Goals as goal

pub invariant_of-self : goal.invariant_of-self
invariant_of-self c =
    let w = c.self.inside.scene in
    let count : c.in-Some.number ≡ w.number + 1 = omega (arith, c.in-Some.ensures.1, c.number.ensures) in
    reopened_runs w c.set_up.new.self c.self.inside.machine c.in_ok-self-inside.field-0 c.schema.result.now c.journal.result.now c.in-Some.number c.self.invariant (sym c.is_up.ensures ∙ c.if-is_up.false) count c.in_ok-self-inside.ensures c.schema.ensures c.journal.ensures
    c.set_up.ensures
