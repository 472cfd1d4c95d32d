use Rattle.std.proofs.Common.{◌≡◌, ◌∙◌, IfSome, Option, ap, sym, subst}
use Rattle.feature_versions.specs.Holding.{Holding}
use Rattle.wfs_model.specs.Kept.{IsKept}
use Rattle.snapshot_reads.specs.Content.{Content, content_of, with_change}
use Rattle.snapshot_reads.specs.Whole.{content_of_other}
use Rattle.snapshot_reads.proofs.Asking.{asks_late}
use Rattle.snapshot_reads.proofs.steps.catch_up.Goals as goal

pub caught_up-requires : goal.caught_up-requires
caught_up-requires g c =
    let late = c.in-Late.late in
    let shown = c.args.writer.desk.shown.value.snapshot in
    let is : with_change late.before late.change ≡ shown = ap content_of_other (sym c.in-Late.is) ∙ c.requires.alike in
    let at : content_of c.features.result.now ≡ shown = c.features.ensures ∙ (λ i. (c.published.ensures i).snapshot) in
    asks_late late.before shown late.change is (subst (λ (k : Content). IsKept k.schema k.kept) at c.schema-schema.ensures.kept)

pub returns-in-Same-clause-alike : goal.returns-in-Same-clause-alike
returns-in-Same-clause-alike g c x is =
    let same : c.in-Same.features ≡ x = cc is in
    ap content_of (sym same) ∙ (ap content_of_other (sym c.in-Same.is) ∙ c.requires.alike)

pub returns-in-Late-clause-alike : goal.returns-in-Late-clause-alike
returns-in-Late-clause-alike g c x is =
    let late = c.in-Late.late in
    let made : content_of x ≡ with_change late.before late.change = subst (λ (o : Option Holding). IfSome o (λ f. content_of f ≡ with_change late.before late.change)) is c.caught_up.ensures in
    made ∙ (ap content_of_other (sym c.in-Late.is) ∙ c.requires.alike)
