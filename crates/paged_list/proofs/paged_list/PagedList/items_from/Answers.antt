use Rattle.std.proofs.Common.{rules, ◌≡◌, ◌-◌, ◌/◌, ◌%◌, [], take, drop, sym, ◌∙◌, ap, arith}
use Rattle.std.specs.Prelude.{Some, None}
use Rattle.std.specs.List.{slice_get}
use Rattle.std.proofs.lemmas.List.{take_all}
use Rattle.paged_list.specs.Pages.{items_of}
use Rattle.paged_list.proofs.Flats.{front_none, front_of}
use Rattle.paged_list.proofs.paged_list.PagedList.items_from.Goals as goal

pub returns-in-None : goal.returns-in-None
returns-in-None g c =
    let h : slice_get (items_of c.self.inside.branches) (c.args.place / 8192) ≡ None = search rules in
    let d : drop c.args.place c.args.self.now ≡ [] = front_none 8192 c.self.inside.len (items_of c.self.inside.branches) c.args.self.now (c.args.place / 8192) (c.args.place % 8192) c.args.place c.self.invariant c.self.view_is (omega arith) (omega arith) h in
    sym (ap (λ t. take (64 - c.args.place % 64) t) d ∙ take_all (64 - c.args.place % 64) [] (omega arith))

pub returns-in-Some : goal.returns-in-Some
returns-in-Some g c =
    let h : slice_get (items_of c.self.inside.branches) (c.args.place / 8192) ≡ Some c.in-Some.branch.now = search rules in
    let k : c.args.place % 8192 % 64 ≡ c.args.place % 64 = omega arith in
    front_of 8192 c.self.inside.len (items_of c.self.inside.branches) c.args.self.now (c.args.place / 8192) (c.args.place % 8192) c.args.place c.in-Some.branch.now c.items_from.result.now (64 - c.args.place % 64) c.self.invariant c.self.view_is (omega arith) (omega arith) h (omega arith) (c.items_from.ensures ∙ ap (λ t. take (64 - t) (drop (c.args.place % 8192) c.in-Some.branch.now)) k)
