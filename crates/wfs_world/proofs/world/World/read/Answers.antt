use Rattle.std.proofs.Common.{refl, sym, ap, ◌∙◌, subst}
use Rattle.std.proofs.lemmas.Bool.{false≢true}
use Rattle.wfs_model.specs.declared.reply.Reply.{Reply}
use Rattle.wfs_world.specs.declared.event.Event.TheVariants.{Read}
use Rattle.wfs_world.specs.declared.event.Seen.TheVariants.{Answer}
use Rattle.wfs_world.specs.Events.{MayHappen, happened}
use Rattle.wfs_world.specs.Scene.{Scene}
use Rattle.wfs_world.proofs.Answering.{happens, not_now, runs_same}
use Rattle.wfs_world.proofs.world.World.read.Goals as goal

pub returns-then-not-may_read : goal.returns-then-not-may_read
returns-then-not-may_read c = not_now c.args.self.now c.self.inside.scene _ _ c.self.view_is (sym c.self.view_is) (λ may. absurd (false≢true ((c.if-not-may_read.ensures c.args.moment).1 may)))

pub answer-requires-clause-up : goal.answer-requires-clause-up
answer-requires-clause-up c = (subst (λ (w : Scene). MayHappen w (Read c.args.seat c.args.front c.args.moment c.args.request.now)) c.self.view_is ((c.if-not-may_read.ensures c.args.moment).0 refl)).0

pub answer-requires-clause-read : goal.answer-requires-clause-read
answer-requires-clause-read c = ((c.if-not-may_read.ensures c.args.moment).0 refl).1

pub answer-requires-clause-front : goal.answer-requires-clause-front
answer-requires-clause-front c = (subst (λ (w : Scene). MayHappen w (Read c.args.seat c.args.front c.args.moment c.args.request.now)) c.self.view_is ((c.if-not-may_read.ensures c.args.moment).0 refl)).4

pub invariant_of-self : goal.invariant_of-self
invariant_of-self c =
    let may = (c.if-not-may_read.ensures c.args.moment).0 refl in
    runs_same c.self.inside.scene c.see.new.self (Read c.args.seat c.args.front c.args.moment c.args.request.now) c.self.inside.machine c.self.invariant tt may c.see.ensures may.0 refl

pub returns : goal.returns
returns c =
    let event = Read c.args.seat c.args.front c.args.moment c.args.request.now in
    let may = subst (λ (w : Scene). MayHappen w event) c.self.view_is ((c.if-not-may_read.ensures c.args.moment).0 refl) in
    happens c.args.self.now c.args.self.now c.see.new.self event (Answer c.in_ok-reply.reply) refl may (c.see.ensures ∙ ap (λ (w : Scene). happened w event) c.self.view_is) (ap (λ (r : Reply). Answer r) c.in_ok-reply.ensures)
