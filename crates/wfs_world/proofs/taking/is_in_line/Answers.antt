use Rattle.std.proofs.Common.{rules, tests}
use Rattle.std.specs.Prelude.{◌==◌}
use Rattle.std.proofs.lemmas.Iterator.Search.{any_from_yields_List}
use Rattle.std.proofs.lemmas.Iterator.Consumers.{YieldsList-from_deque}
use Rattle.wfs_model.specs.declared.entry.Entry.{Entry}
use Rattle.wfs_world.proofs.taking.is_in_line.Goals as goal

pub returns : goal.returns
returns c =
    any_from_yields_List (λ (entry : Entry). entry.seat == c.args.seat) _ _ _ c.any.ensures.ran (YieldsList-from_deque c.args.line.now.items c.iter.ensures.rest) (λ x b q k. search (rules, tests))
