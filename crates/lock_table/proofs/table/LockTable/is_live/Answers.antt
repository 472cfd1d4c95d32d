use Rattle.std.proofs.Common.{◌≤◌, ◌∙◌, ap, sym, subst}
use Rattle.lock_table.specs.Lock.{Locks}
use Rattle.lock_table.specs.Held.{is_live_number}
use Rattle.lock_table.proofs.Seen.{number_seen}
use Rattle.lock_table.proofs.table.LockTable.is_live.Goals as goal

pub is_live_number-requires : goal.is_live_number-requires
is_live_number-requires c = rw c.as_slice.ensures.value c.self.invariant.0.rising

pub returns : goal.returns
returns c =
    let t = c.self.inside in
    let le = subst (λ (s : Locks). s.last ≤ c.args.moment) (sym c.self.view_is) c.requires in
    c.is_live_number.ensures ∙ rw c.as_slice.ensures.value (sym (number_seen t.last c.args.moment c.args.number t.locks.items le) ∙ ap (λ (s : Locks). is_live_number s.locks c.args.moment c.args.number) c.self.view_is)
