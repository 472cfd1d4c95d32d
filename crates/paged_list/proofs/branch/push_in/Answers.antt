use Rattle.std.proofs.Common.{◌≡◌, ◌<◌, ◌++◌, ◌∷◌, [], length, ◌∙◌, ap, arith}
use Rattle.std.proofs.Math.ListN.{set}
use Rattle.paged_list.specs.Flat.{added_at}
use Rattle.paged_list.specs.Pages.{items_of}
use Rattle.paged_list.proofs.Flats.{added_there, list_any, on_ok}
use Rattle.paged_list.proofs.branch.push_in.Goals as goal

pub returns-then-leaf-len-clause-items : goal.returns-then-leaf-len-clause-items
returns-then-leaf-len-clause-items g c =
    let l : c.in-Own.all.items ≡ items_of c.args.leaves.now = rw c.in-Own.is at c.own.ensures.items in
    let h : c.args.leaf < length c.in-Own.all.items = omega arith in
    on_ok c.push.result c.push.ensures.items (λ e.
    ap (λ t. set c.in-Own.all.items c.args.leaf t) (e ∙ ap (λ t. t ++ c.args.item ∷ []) (list_any c.in-Own.all.items c.args.leaf c.index_mut.result.now c.index_mut.ensures.value h))
    ∙ added_there c.in-Own.all.items c.args.leaf c.args.item h ∙ ap (λ t. added_at t c.args.leaf c.args.item) l)
