use Rattle.std.proofs.Common.{◌∙◌, ap, length}
use Rattle.wfs_model.specs.Links.{link_to}
use Rattle.stored_queries.proofs.Pages.{values_shown}
use Rattle.stored_queries.proofs.valuing.values.Goals as goal

pub returns : goal.returns
returns g c =
    values_shown (λ f. f.now) c.args.moment c.args.present.now c.args.kind c.args.property _ c.in_ok-some.some.items _ _ _ _ c.in_ok-some.ensures c.if-present.false
    (ap length c.as_slice-found.ensures.value)
    (rw (c.page.ensures, c.as_slice-found.ensures.value) at c.in_ok-features.ensures)
    (c.in_ok-link_to.ensures ∙ ap (link_to c.args.present.now.link) c.next_page-next.ensures)
    (c.in_ok-link_to-2.ensures ∙ ap (link_to c.args.present.now.link) c.previous_page-previous.ensures)
