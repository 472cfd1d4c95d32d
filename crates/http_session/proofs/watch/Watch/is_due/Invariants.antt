use Rattle.std.proofs.Common.{◌≡◌, ℕ, ◌-◌, ◌<◌, ◌≤◌, false, List, ◌∷◌, ◌++◌, length}
use Rattle.http_session.specs.Watching.{lines_of, may_end, HasSeen}
use Rattle.http_session.proofs.watch.Watch.is_due.Given as goal

abbrev pub invariant-loop-self : goal.invariant-loop-self
invariant-loop-self l = record {
  seen : HasSeen l.self l.bytes;
  later : l.fn.self.seen ≤ l.self.seen;
  none : (front : List ℕ) (b : ℕ) (rest : List ℕ) → l.bytes ≡ front ++ b ∷ rest → l.fn.self.seen ≤ length front → length front < l.self.seen → may_end (lines_of front) b ≡ false;
}

abbrev pub decreases-loop-self : goal.decreases-loop-self
decreases-loop-self l = length l.bytes - l.self.seen
