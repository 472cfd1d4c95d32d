use Rattle.std.proofs.Common.{◌≡◌, List, [], Some, sym, ap, ◌∙◌, subst}
use Rattle.feature_values.specs.declared.feature.Feature.{Feature}
use Rattle.feature_overlay.specs.Laid.{laid, all_laid}
use Rattle.request_plans.specs.Marks.{AreThree}
use Rattle.request_plans.proofs.Marks.{are_three}
use Rattle.service_rows.proofs.plans.marks.three_marks.Goals as goal

pub returns-clause-kept : goal.returns-clause-kept
returns-clause-kept c =
    let f = c.in_ok-allowed.field-0 in
    let g = c.in_ok-allowed-2.field-0 in
    let h = c.in_ok-allowed-3.field-0 in
    let one : all_laid [] c.put.new.self.changes.entries ≡ laid [] f.id (Some f) = c.in_ok-put.ensures.ok ∙ ap (λ (fs : List Feature). laid fs f.id (Some f)) c.over-overlay.ensures.features in
    let two : all_laid [] c.put-2.new.self.changes.entries ≡ laid (laid [] f.id (Some f)) g.id (Some g) = c.in_ok-put-2.ensures.ok ∙ ap (λ (fs : List Feature). laid fs g.id (Some g)) one in
    let three : all_laid [] c.put-3.new.self.changes.entries ≡ laid (laid (laid [] f.id (Some f)) g.id (Some g)) h.id (Some h) = c.in_ok-put-3.ensures.ok ∙ ap (λ (fs : List Feature). laid fs h.id (Some h)) two in
    subst (AreThree c.args.nothing.now.schema) (sym three)
    (are_three c.args.nothing.now.schema f g h c.requires c.in_ok-allowed.ensures.id c.in_ok-allowed-2.ensures.id c.in_ok-allowed-3.ensures.id c.in_ok-allowed.ensures.fits c.in_ok-allowed-2.ensures.fits c.in_ok-allowed-3.ensures.fits)
