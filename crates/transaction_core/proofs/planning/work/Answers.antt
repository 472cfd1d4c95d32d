use Rattle.std.proofs.Common.{◌++◌, All, List, subst, sym, ap, ◌∙◌}
use Rattle.std.proofs.lemmas.Result.{on_ok_weaker}
use Rattle.feature_values.specs.declared.feature.Rid.{Rid}
use Rattle.feature_overlay.specs.Laid.{all_laid}
use Rattle.wfs_model.specs.Plans.{Planning}
use Rattle.transaction_core.specs.Planning.{planning_of, IsAimed}
use Rattle.transaction_core.proofs.Fitting.{all_aimed}
use Rattle.transaction_core.proofs.Acting.{plan_at, work_is}
use Rattle.transaction_core.proofs.planning.work.Goals as goal

pub turn_all-requires : goal.turn_all-requires
turn_all-requires g c =
    let features = all_laid (g.V.FeatureView.features c.args.overlay.now.view.now) c.args.overlay.now.changes.entries in
    record {
      aimed = subst (λ (ids : List Rid). All (λ id. IsAimed c.args.action.now id.kind) ids) (sym c.requires.ids) (all_aimed c.args.action.now features);
      fitting = c.requires.fitting;
    }

pub returns-clause-worked : goal.returns-clause-worked
returns-clause-worked g c =
    let old = planning_of (all_laid (g.V.FeatureView.features c.args.overlay.now.view.now) c.args.overlay.now.changes.entries) c.args.tally.now in
    let features = all_laid (g.V.FeatureView.features c.turn_all.new.overlay.view.now) c.turn_all.new.overlay.changes.entries in
    let noted = planning_of features c.note.new.tally in
    on_ok_weaker c.touch.result
    (λ is. ap (λ (touched : List Rid). plan_at noted.at noted.parts touched) is
    ∙ ap (λ (p : Planning). plan_at p.at p.parts (p.touched ++ c.args.ids.now)) (c.in_ok-note.ensures features)
    ∙ work_is c.args.action.now old features c.turn_all.new.parts.items c.args.ids.now c.requires.order c.requires.ids c.in_ok-turn_all.ensures.turned)
    c.touch.ensures
