use Rattle.std.proofs.Common.{◌≡◌, take}
use Rattle.stored_queries.specs.Meant.{all_meant, selected_behind}
use Rattle.stored_queries.proofs.selecting.selected_behind.Given as goal

abbrev pub invariant-loop-meant : goal.invariant-loop-meant
invariant-loop-meant g l = l.ids ≡ selected_behind (g.V.FeatureView.features l.view) l.fn.before (all_meant (take l.meant-index l.queries))
