use Rattle.std.proofs.Common.{◌≡◌, ◌<◌, ◌++◌, ◌∷◌, [], length, ◌∙◌, ap, arith}
use Rattle.std.proofs.Math.ListN.{set}
use Rattle.paged_list.specs.Flat.{added_at}
use Rattle.paged_list.specs.Pages.{items_of}
use Rattle.paged_list.proofs.Flats.{added_there, list_any, on_ok}
use Rattle.paged_list.proofs.paged_list.push_in.Goals as goal

pub returns-then-branch-len-clause-items : goal.returns-then-branch-len-clause-items
returns-then-branch-len-clause-items g c =
    let l : c.in-Own.all.items ≡ items_of c.args.branches.now = rw c.in-Own.is at c.own.ensures.items in
    let h : c.args.branch < length c.in-Own.all.items = omega arith in
    on_ok c.push.result c.push.ensures.items (λ e.
    ap (λ t. set c.in-Own.all.items c.args.branch t) (e ∙ ap (λ t. t ++ c.args.item ∷ []) (list_any c.in-Own.all.items c.args.branch c.index_mut.result.now c.index_mut.ensures.value h))
    ∙ added_there c.in-Own.all.items c.args.branch c.args.item h ∙ ap (λ t. added_at t c.args.branch c.args.item) l)
