use Rattle.std.proofs.Common.{refl, sym, ◌∙◌}
use Rattle.wfs_world.specs.declared.event.Event.TheVariants.{Put}
use Rattle.wfs_world.proofs.Answering.{not_now, change_is, may_put, put_is, put_same, runs_same}
use Rattle.wfs_world.proofs.world.World.put.Goals as goal

pub returns-in_default : goal.returns-in_default
returns-in_default c = not_now c.args.self.now c.self.inside.scene _ _ c.self.view_is (sym c.self.view_is) (c.in_default.ensures.none refl c.args.outcome)

pub invariant_of-self-2 : goal.invariant_of-self-2
invariant_of-self-2 c =
    let w = c.self.inside.scene in
    let stage = c.in-Some.ensures.stage in
    let up = c.in-Some.ensures.up in
    let is = change_is w c.self.inside.machine c.in-Some.entry.now c.in_ok-change.change c.self.invariant up c.in_ok-change.ensures in
    let may = may_put w c.args.seat c.in-Some.entry.now c.in_ok-change.change c.args.outcome up stage c.in-Some.ensures.change is (c.if-not-is_outcome.ensures.0 refl) in
    runs_same w c.put.new.self (Put c.args.seat c.args.outcome) c.self.inside.machine c.self.invariant tt may
    (c.in_ok-put.ensures.ok ∙ put_is w c.args.seat c.in-Some.entry.now c.in_ok-change.change c.args.outcome stage is) up (put_same w c.args.seat c.args.outcome _)
