use Rattle.std.proofs.Common.{refl, sym, ap, ◌∙◌}
use Rattle.std.proofs.lemmas.Bool.{true≢false}
use Rattle.wfs_world.specs.declared.event.Event.TheVariants.{Crash}
use Rattle.wfs_world.specs.Scene.{Scene}
use Rattle.wfs_world.proofs.Answering.{runs_on}
use Rattle.wfs_world.proofs.world.World.crash.Goals as goal

pub invariant_of-self-2 : goal.invariant_of-self-2
invariant_of-self-2 c =
    let left = c.in_ok-crash.ensures.ok in
    runs_on c.self.inside.scene c.crash.new.self (Crash c.args.with_begun) c.self.inside.machine c.self.inside.machine c.self.invariant tt (c.if-not-may_crash.ensures.0 refl) left refl
    (λ up. absurd (true≢false (sym up ∙ ap (λ (w : Scene). w.is_up) left)))
