use Rattle.std.proofs.Common.{◌∙◌, sym, ap}
use Rattle.lock_table.specs.Held.{is_live}
use Rattle.lock_table.specs.Lock.{Lock}
use Rattle.lock_table.proofs.Rising.{live_at, not_live}
use Rattle.lock_table.proofs.numbered.is_live_number.Goals as goal

pub returns-in-Some : goal.returns-in-Some
returns-in-Some c =
    let lock = c.index-locks-i.result in
    c.is_live.ensures ∙ ap (λ (l : Lock). is_live c.args.moment l) c.index-locks-i.is ∙ sym (live_at c.args.moment c.args.number 0 c.args.locks.now c.in-Some.i lock c.requires c.in-Some.ensures.0 (c.in-Some.ensures.1 lock))

pub returns-in-None : goal.returns-in-None
returns-in-None c = sym (not_live c.args.moment c.args.number c.args.locks.now c.in-None.ensures)
