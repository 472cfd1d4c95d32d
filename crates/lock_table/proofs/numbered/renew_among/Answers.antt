use Rattle.std.proofs.Common.{sym}
use Rattle.lock_table.specs.Steps.{renewed_lock}
use Rattle.lock_table.proofs.Rising.{changed_place, none_changed}
use Rattle.lock_table.proofs.numbered.renew_among.Goals as goal

pub returns-in-Some : goal.returns-in-Some
returns-in-Some c = changed_place c.args.number (renewed_lock c.args.moment c.args.period) c.args.locks.now c.in-Some.i c.index-locks-i.result c.renew.new.self c.requires c.in-Some.ensures.0 (c.in-Some.ensures.1 c.index-locks-i.result) c.renew.ensures

pub returns-in-None : goal.returns-in-None
returns-in-None c = sym (none_changed c.args.number (renewed_lock c.args.moment c.args.period) c.args.locks.now c.in-None.ensures)
