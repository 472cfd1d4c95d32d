use Rattle.std.proofs.Common.{◌≡◌, ◌∙◌, sym, ap, subst, filter, rules}
use Rattle.std.specs.Prelude.{is_some}
use Rattle.std.proofs.lemmas.Fn.{filter_same}
use Rattle.feature_versions.specs.declared.rows.Row.{Row}
use Rattle.feature_versions.specs.Rows.{live, AreRows}
use Rattle.feature_versions.proofs.Standing.{swept_live, swept_rows}
use Rattle.feature_versions.proofs.rows.sweep.Goals as goal

pub returns-clause-items : goal.returns-clause-items
returns-clause-items c =
    let kept : c.retain.new.self.items ≡ filter (λ (row : Row). is_some row.feature) c.args.rows.now.items = filter_same _ _ _ (λ x b f' k. search rules) _ _ c.retain.ensures.filtered in
    ap live kept ∙ swept_live c.args.rows.now.items

pub returns-clause-rows : goal.returns-clause-rows
returns-clause-rows c = λ kind are.
    let kept : c.retain.new.self.items ≡ filter (λ (row : Row). is_some row.feature) c.args.rows.now.items = filter_same _ _ _ (λ x b f' k. search rules) _ _ c.retain.ensures.filtered in
    subst (AreRows kind) (sym kept) (swept_rows (λ (row : Row). is_some row.feature) kind c.args.rows.now.items are)
