use Rattle.std.proofs.Common.{◌/◌, ◌%◌, arith}
use Rattle.paged_list.specs.Pages.{items_of}
use Rattle.paged_list.proofs.Flats.{place_within, replaced, even_replaced, was_there}
use Rattle.paged_list.proofs.branch.Branch.replace.Goals as goal

pub replace_in-requires : goal.replace_in-requires
replace_in-requires g c = place_within 64 c.self.inside.len (items_of c.self.inside.leaves) c.args.self.now (c.args.place / 64) (c.args.place % 64) c.args.place c.self.invariant c.self.view_is (omega arith) (omega arith) c.requires

pub invariant_of-self-2 : goal.invariant_of-self-2
invariant_of-self-2 g c = even_replaced 64 c.self.inside.len (items_of c.self.inside.leaves) (items_of c.replace_in.new.leaves) (c.args.place / 64) (c.args.place % 64) c.args.item c.self.invariant c.in_ok-old.ensures.items

pub returns-clause-was : goal.returns-clause-was
returns-clause-was g c = was_there 64 c.self.inside.len (items_of c.self.inside.leaves) c.args.self.now (c.args.place / 64) (c.args.place % 64) c.args.place c.in_ok-old.old c.self.invariant c.self.view_is (omega arith) (omega arith) c.in_ok-old.ensures.was

pub returns-clause-items : goal.returns-clause-items
returns-clause-items g c = replaced 64 c.self.inside.len (items_of c.self.inside.leaves) (items_of c.replace_in.new.leaves) c.args.self.now (c.args.place / 64) (c.args.place % 64) c.args.place c.args.item c.self.invariant c.self.view_is (omega arith) (omega arith) c.requires c.in_ok-old.ensures.items
