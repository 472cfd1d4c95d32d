use Rattle.std.proofs.Common.{◌/◌, ◌%◌, arith}
use Rattle.paged_list.specs.Pages.{items_of}
use Rattle.paged_list.proofs.Flats.{end_within, length_at_end, added, even_added}
use Rattle.paged_list.proofs.paged_list.PagedList.push.Goals as goal

pub push_in-requires-clause-there : goal.push_in-requires-clause-there
push_in-requires-clause-there g c = end_within 8192 c.self.inside.len (items_of c.self.inside.branches) (c.self.inside.len / 8192) (c.self.inside.len % 8192) c.self.invariant (omega arith) (omega arith)

pub push_in-requires-clause-room : goal.push_in-requires-clause-room
push_in-requires-clause-room g c = omega (arith, length_at_end 8192 c.self.inside.len (items_of c.self.inside.branches) (c.self.inside.len / 8192) (c.self.inside.len % 8192) c.self.invariant (omega arith) (omega arith))

pub invariant_of-self-2 : goal.invariant_of-self-2
invariant_of-self-2 g c = even_added 8192 c.self.inside.len (items_of c.self.inside.branches) (items_of c.push_in.new.branches) (c.self.inside.len / 8192) (c.self.inside.len % 8192) c.args.item c.self.invariant (omega arith) (omega arith) c.in_ok-push_in.ensures.items

pub returns-clause-items : goal.returns-clause-items
returns-clause-items g c = added 8192 c.self.inside.len (items_of c.self.inside.branches) (items_of c.push_in.new.branches) c.args.self.now (c.self.inside.len / 8192) (c.self.inside.len % 8192) c.args.item c.self.invariant c.self.view_is (omega arith) (omega arith) c.in_ok-push_in.ensures.items
