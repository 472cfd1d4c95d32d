use Rattle.std.proofs.Common.{sym, ◌∙◌}
use Rattle.stored_queries.specs.Meant.{meant_by}
use Rattle.stored_queries.proofs.Turns.{one_more_selected}
use Rattle.stored_queries.proofs.selecting.selected_behind.Goals as goal

pub loop-meant-preserved : goal.loop-meant-preserved
loop-meant-preserved g c =
    let more = one_more_selected meant_by (g.V.FeatureView.features c.args.view.now) c.args.before c.args.queries.now c.loop-meant.meant-index c.meant-item.result c.loop-meant-test.true c.meant-item.is in
    c.in_ok-ids.ensures ∙ rw (c.in_ok-more.ensures.value, c.query.ensures, c.loop-meant.invariant) (sym more)
