use Rattle.std.proofs.Common.{◌≡◌, ◌++◌, refl, sym, ap, ◌∙◌, subst, set, length, length-set, List, Option, Some, arith, ℕ}
use Rattle.std.specs.Option.{option_to_list}
use Rattle.std.specs.Vec.{with_items}
use Rattle.std.proofs.lemmas.List.{with_items_is}
use Rattle.wfs_model.specs.declared.entry.Entry.{Entry}
use Rattle.wfs_world.specs.declared.turn.Turn.{Turn}
use Rattle.wfs_world.specs.contracts.scene.Scene.{the_view}
use Rattle.wfs_world.specs.Events.{MayEnter, entered}
use Rattle.wfs_world.specs.Kept.{IsMet}
use Rattle.wfs_world.specs.Scene.{Scene, stage_of}
use Rattle.wfs_world.specs.Turns.{put_in, at_moment}
use Rattle.wfs_world.proofs.Entries.{entered_is}
use Rattle.wfs_world.proofs.scene.Scene.enter.Goals as goal

pub returns-clause-ok : goal.returns-clause-ok
returns-clause-ok c =
    let w : Scene = the_view c.self.inside in
    let seat : ℕ = c.args.seat in
    let moment : ℕ = c.moment_of-moment.result in
    let entries : List Entry = c.push_some.new.items.items in
    let fronts : List ℕ = (with_items c.self.inside.fronts c.set_front.new.fronts).items in
    let long : length c.set_front.new.fronts ≡ c.self.inside.fronts.len =
    ap (λ (l : List ℕ). length l) c.set_front.ensures ∙ length-set c.deref_mut.result.now seat c.len.result ∙ c.deref_mut.ensures.len in
    let whole : fronts ≡ c.set_front.new.fronts = with_items_is c.self.inside.fronts c.set_front.new.fronts long in
    let view : w ≡ c.args.self.now = c.self.view_is in
    let met : IsMet w c.args.machine.now = subst (λ (v : Scene). IsMet v c.args.machine.now) (sym view) c.requires.met in
    let may : MayEnter (stage_of w seat) = subst (λ (v : Scene). MayEnter (stage_of v seat)) (sym view) c.requires.may in
    let was : put_in w.turn ≡ Some c.in-Some.entry.now = sym c.in-Some.ensures in
    let now : c.put_out-now.result ≡ at_moment moment (put_in w.turn) = c.put_out-now.ensures ∙ ap (λ (t : Option Turn). at_moment moment (put_in t)) c.take.ensures.value in
    let adds : entries ≡ w.entries ++ option_to_list (at_moment moment (put_in w.turn)) =
    c.push_some.ensures ∙ ap (λ (l : List Entry). l ++ option_to_list c.put_out-now.result) c.reserve.ensures.items ∙ ap (λ (o : Option Entry). w.entries ++ option_to_list o) now in
    let count : c.len.result ≡ length entries = omega (arith, c.len.ensures, c.push_some.new.items.ok.0) in
    let sees : fronts ≡ set w.fronts seat (length entries) = whole ∙ c.set_front.ensures ∙ ap (λ (l : List ℕ). set l seat c.len.result) c.deref_mut.ensures.value ∙ ap (λ (n : ℕ). set w.fronts seat n) count in
    ap (λ (t : Option Turn). record w { seats = length fronts; entries = entries; fronts = fronts; turn = t }) c.set_turn.ensures
    ∙ entered_is w seat c.in-Some.entry.now c.args.machine.now c.step.new.self.state moment c.in_ok-reply.reply entries fronts refl met may was c.moment_of-moment.ensures.value c.in_ok-reply.ensures.ok adds sees
    ∙ ap (λ (v : Scene). entered v seat (stage_of v seat)) view
