use Rattle.std.proofs.Common.{◌≡◌, ◌∙◌, ap, sym, subst, true, arith}
use Rattle.lock_table.specs.Lock.{Locks}
use Rattle.lock_table.specs.Held.{features_of, is_live_number}
use Rattle.lock_table.proofs.Rising.{live_one}
use Rattle.lock_table.proofs.Seen.{features_seen, number_seen}
use Rattle.lock_table.proofs.table.LockTable.features_of.Goals as goal

pub features_of-requires : goal.features_of-requires
features_of-requires c = rw c.as_slice.ensures.value c.self.invariant.0.rising

pub returns : goal.returns
returns c =
    let t = c.self.inside in
    let live = subst (λ (s : Locks). is_live_number s.locks s.last c.args.number ≡ true) (sym c.self.view_is) c.requires in
    let there = sym (number_seen t.last t.last c.args.number t.locks.items (omega arith)) ∙ live in
    c.features_of.ensures ∙ rw c.as_slice.ensures.value (sym (features_seen t.last c.args.number t.locks.items (live_one t.last c.args.number 0 t.locks.items c.self.invariant.0.rising there)) ∙ ap (λ (s : Locks). features_of s.locks c.args.number) c.self.view_is)
