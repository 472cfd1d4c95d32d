use Rattle.std.proofs.Common.{sym}
use Rattle.lock_table.specs.Kept.{ended}
use Rattle.lock_table.proofs.Rising.{changed_place, none_changed}
use Rattle.lock_table.proofs.numbered.end_among.Goals as goal

pub returns-in-Some : goal.returns-in-Some
returns-in-Some c = changed_place c.args.number (ended) c.args.locks.now c.in-Some.i c.index-locks-i.result c.end.new.self c.requires c.in-Some.ensures.0 (c.in-Some.ensures.1 c.index-locks-i.result) c.end.ensures

pub returns-in-None : goal.returns-in-None
returns-in-None c = sym (none_changed c.args.number (ended) c.args.locks.now c.in-None.ensures)
