use Rattle.std.proofs.Common.{◌≡◌, ◌≤◌, ◌<◌, ◌+◌, ◌-◌, ◌++◌, ℕ, List, [], length, take}
use Rattle.std.specs.List.{AllByRecursion, flat_map}
use Rattle.feature_journal.specs.Side.{opened}
use Rattle.feature_journal.specs.Whole.{Fits}
use Rattle.recovery.specs.Walk.{IsFile, left}
use Rattle.recovery.proofs.walk.walk.Given as goal

abbrev pub invariant-loop-next : goal.invariant-loop-next
invariant-loop-next g l = record {
  some : 16 ≤ l.gate;
  limit_fits : l.gate + 1 ≤ l.side.limit;
  len_fits : l.gate < l.side.len;
  number_is : l.number ≡ length (g.R.Replay.taken l.replay);
  number_fits : l.number ≤ l.gate;
  setting_is : g.R.Replay.setting l.replay ≡ g.R.Replay.setting l.fn.replay;
  verdict_is : g.R.Replay.verdict l.replay ≡ g.R.Replay.verdict l.fn.replay;
  fits : AllByRecursion Fits (g.R.Replay.taken l.replay);
  spelled : take l.gate l.side.bytes.items ≡ take 16 l.side.bytes.items ++ flat_map opened (g.R.Replay.taken l.replay);
  coming : (c : List ℕ) (generation : ℕ) → IsFile l.side c → left (g.R.Replay.verdict l.fn.replay) l.side.limit l.side.second generation c 16 [] ≡ left (g.R.Replay.verdict l.fn.replay) l.side.limit l.side.second generation c l.gate (g.R.Replay.taken l.replay);
}

abbrev pub decreases-loop-next : goal.decreases-loop-next
decreases-loop-next g l = l.side.limit - l.gate
