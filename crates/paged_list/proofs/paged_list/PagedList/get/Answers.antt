use Rattle.std.proofs.Common.{rules, ◌≡◌, ◌/◌, ◌%◌, sym, ◌∙◌, arith}
use Rattle.std.specs.Prelude.{Some, None}
use Rattle.std.specs.List.{slice_get}
use Rattle.paged_list.specs.Pages.{items_of}
use Rattle.paged_list.proofs.Flats.{item_none, item_some}
use Rattle.paged_list.proofs.paged_list.PagedList.get.Goals as goal

pub returns-in-None : goal.returns-in-None
returns-in-None g c =
    let h : slice_get (items_of c.self.inside.branches) (c.args.place / 8192) ≡ None = search rules in
    sym (item_none 8192 c.self.inside.len (items_of c.self.inside.branches) c.args.self.now (c.args.place / 8192) (c.args.place % 8192) c.args.place c.self.invariant c.self.view_is (omega arith) (omega arith) h)

pub returns-in-Some : goal.returns-in-Some
returns-in-Some g c =
    let h : slice_get (items_of c.self.inside.branches) (c.args.place / 8192) ≡ Some c.in-Some.branch.now = search rules in
    search rules ∙ sym (item_some 8192 c.self.inside.len (items_of c.self.inside.branches) c.args.self.now (c.args.place / 8192) (c.args.place % 8192) c.args.place c.in-Some.branch.now c.self.invariant c.self.view_is (omega arith) (omega arith) h)
