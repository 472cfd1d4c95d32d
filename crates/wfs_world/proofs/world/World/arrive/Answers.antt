use Rattle.std.proofs.Common.{refl, sym, subst}
use Rattle.std.proofs.lemmas.Bool.{false≢true}
use Rattle.wfs_model.specs.OfSchema.{IsOfSchema}
use Rattle.wfs_world.specs.declared.event.Event.TheVariants.{Arrive}
use Rattle.wfs_world.specs.Scene.{Scene}
use Rattle.wfs_world.proofs.Answering.{happens, not_now, runs_same}
use Rattle.wfs_world.proofs.world.World.arrive.Goals as goal

pub returns-then-not-may_arrive : goal.returns-then-not-may_arrive
returns-then-not-may_arrive c =
    not_now c.args.self.now c.self.inside.scene _ _ c.self.view_is (sym c.self.view_is) (λ may. absurd (false≢true ((c.if-not-may_arrive.ensures c.args.entry.moment c.args.entry.size c.args.entry.request).1 may)))

pub invariant_of-self-2 : goal.invariant_of-self-2
invariant_of-self-2 c =
    let may = (c.if-not-may_arrive.ensures c.args.entry.moment c.args.entry.size c.args.entry.request).0 refl in
    runs_same c.self.inside.scene c.arrive.new.self (Arrive c.args.entry.seat c.args.entry.moment c.args.entry.size c.args.entry.request) c.self.inside.machine c.self.invariant (subst (λ (w : Scene). IsOfSchema w.schema c.args.entry.request) (sym c.self.view_is) c.requires) may c.in_ok-arrive.ensures.ok may.0 refl

pub returns : goal.returns
returns c =
    let may = (c.if-not-may_arrive.ensures c.args.entry.moment c.args.entry.size c.args.entry.request).0 refl in
    happens c.args.self.now c.self.inside.scene c.arrive.new.self (Arrive c.args.entry.seat c.args.entry.moment c.args.entry.size c.args.entry.request) _ c.self.view_is may c.in_ok-arrive.ensures.ok refl
