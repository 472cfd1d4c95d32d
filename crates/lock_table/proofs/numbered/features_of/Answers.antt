use Rattle.std.proofs.Common.{◌∙◌, sym, ap}
use Rattle.lock_table.specs.Lock.{Lock}
use Rattle.lock_table.proofs.Rising.{features_at, none_numbered}
use Rattle.lock_table.proofs.numbered.features_of.Goals as goal

pub returns-in-Some : goal.returns-in-Some
returns-in-Some c =
    let lock = c.index-locks-i.result in
    c.features.ensures ∙ ap (λ (l : Lock). l.features) c.index-locks-i.is ∙ sym (features_at c.args.number 0 c.args.locks.now c.in-Some.i lock c.requires c.in-Some.ensures.0 (c.in-Some.ensures.1 lock))

pub returns-in-None : goal.returns-in-None
returns-in-None c = sym (none_numbered c.args.number c.args.locks.now c.in-None.ensures)
