use Rattle.std.proofs.Common.{sym}
use Rattle.lock_table.specs.Kept.{number_at, left_by}
use Rattle.lock_table.proofs.Rising.{changed_place, none_changed}
use Rattle.lock_table.proofs.numbered.leave_among.Goals as goal

pub returns-in-Some : goal.returns-in-Some
returns-in-Some c = changed_place c.args.number (left_by c.args.moment (number_at c.args.holders.now.numbers)) c.args.locks.now c.in-Some.i c.index-locks-i.result c.leave.new.self c.requires c.in-Some.ensures.0 (c.in-Some.ensures.1 c.index-locks-i.result) c.leave.ensures

pub returns-in-None : goal.returns-in-None
returns-in-None c = sym (none_changed c.args.number (left_by c.args.moment (number_at c.args.holders.now.numbers)) c.args.locks.now c.in-None.ensures)
