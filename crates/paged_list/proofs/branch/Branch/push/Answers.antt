use Rattle.std.proofs.Common.{◌/◌, ◌%◌, ap, length, arith}
use Rattle.paged_list.specs.Pages.{items_of}
use Rattle.paged_list.proofs.Flats.{end_within, added, even_added, length_is}
use Rattle.paged_list.proofs.branch.Branch.push.Goals as goal

pub push_in-requires : goal.push_in-requires
push_in-requires g c = end_within 64 c.self.inside.len (items_of c.self.inside.leaves) (c.self.inside.len / 64) (c.self.inside.len % 64) c.self.invariant (omega arith) (omega arith)

pub overflow_add-self : goal.overflow_add-self
overflow_add-self g c = omega (arith, c.requires, ap length c.self.view_is, length_is 64 c.self.inside.len (items_of c.self.inside.leaves) c.self.invariant)

pub invariant_of-self-2 : goal.invariant_of-self-2
invariant_of-self-2 g c = even_added 64 c.self.inside.len (items_of c.self.inside.leaves) (items_of c.push_in.new.leaves) (c.self.inside.len / 64) (c.self.inside.len % 64) c.args.item c.self.invariant (omega arith) (omega arith) c.in_ok-push_in.ensures.items

pub returns-clause-items : goal.returns-clause-items
returns-clause-items g c = added 64 c.self.inside.len (items_of c.self.inside.leaves) (items_of c.push_in.new.leaves) c.args.self.now (c.self.inside.len / 64) (c.self.inside.len % 64) c.args.item c.self.invariant c.self.view_is (omega arith) (omega arith) c.in_ok-push_in.ensures.items
