use Rattle.std.proofs.Common.{◌≡◌, ◌≤◌, ◌∙◌, List, length, ap, subst, arith}
use Rattle.lock_table.specs.Lock.{Lock, Locks}
use Rattle.lock_table.specs.Held.{live}
use Rattle.lock_table.proofs.Seen.{live_seen}
use Rattle.lock_table.proofs.table.LockTable.live_now.Goals as goal

pub live_count-requires : goal.live_count-requires
live_count-requires c = subst (λ (s : Locks). s.last ≤ c.self.inside.last) c.self.view_is (omega arith)

pub returns : goal.returns
returns c =
    let t = c.self.inside in
    c.live_count.ensures ∙ subst (λ (s : Locks). length (live t.last s.locks) ≡ length s.locks) c.self.view_is (ap (λ (ls : List Lock). length ls) (live_seen t.last t.last t.locks.items (omega arith)))
