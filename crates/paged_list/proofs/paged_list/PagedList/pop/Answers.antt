use Rattle.std.proofs.Common.{◌-◌, ◌<◌, ◌/◌, ◌%◌, ap, length, arith}
use Rattle.paged_list.specs.Pages.{items_of}
use Rattle.paged_list.proofs.Flats.{length_is, last_there, popped, even_popped, was_last}
use Rattle.paged_list.proofs.paged_list.PagedList.pop.Goals as goal

pub overflow_sub-place : goal.overflow_sub-place
overflow_sub-place g c =
    let h : 0 < c.self.inside.len = omega (arith, c.requires, ap length c.self.view_is, length_is 8192 c.self.inside.len (items_of c.self.inside.branches) c.self.invariant) in
    omega (arith, h)

pub pop_in-requires : goal.pop_in-requires
pop_in-requires g c =
    let h : 0 < c.self.inside.len = omega (arith, c.requires, ap length c.self.view_is, length_is 8192 c.self.inside.len (items_of c.self.inside.branches) c.self.invariant) in
    last_there 8192 c.self.inside.len (items_of c.self.inside.branches) ((c.self.inside.len - 1) / 8192) ((c.self.inside.len - 1) % 8192) (c.self.inside.len - 1) c.self.invariant (omega arith) (omega arith) (omega arith)

pub invariant_of-self-2 : goal.invariant_of-self-2
invariant_of-self-2 g c =
    let h : 0 < c.self.inside.len = omega (arith, c.requires, ap length c.self.view_is, length_is 8192 c.self.inside.len (items_of c.self.inside.branches) c.self.invariant) in
    even_popped 8192 c.self.inside.len (items_of c.self.inside.branches) (items_of c.pop_in.new.branches) ((c.self.inside.len - 1) / 8192) ((c.self.inside.len - 1) % 8192) (c.self.inside.len - 1) c.self.invariant (omega arith) (omega arith) (omega arith) c.in_ok-item.ensures.items

pub returns-clause-was : goal.returns-clause-was
returns-clause-was g c =
    let h : 0 < c.self.inside.len = omega (arith, c.requires, ap length c.self.view_is, length_is 8192 c.self.inside.len (items_of c.self.inside.branches) c.self.invariant) in
    was_last 8192 c.self.inside.len (items_of c.self.inside.branches) c.args.self.now ((c.self.inside.len - 1) / 8192) ((c.self.inside.len - 1) % 8192) (c.self.inside.len - 1) c.in_ok-item.item c.self.invariant c.self.view_is (omega arith) (omega arith) (omega arith) c.in_ok-item.ensures.was

pub returns-clause-items : goal.returns-clause-items
returns-clause-items g c =
    let h : 0 < c.self.inside.len = omega (arith, c.requires, ap length c.self.view_is, length_is 8192 c.self.inside.len (items_of c.self.inside.branches) c.self.invariant) in
    popped 8192 c.self.inside.len (items_of c.self.inside.branches) (items_of c.pop_in.new.branches) c.args.self.now ((c.self.inside.len - 1) / 8192) ((c.self.inside.len - 1) % 8192) (c.self.inside.len - 1) c.self.invariant c.self.view_is (omega arith) (omega arith) (omega arith) c.in_ok-item.ensures.items
