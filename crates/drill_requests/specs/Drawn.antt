-- What a round of a drill is seen as.
use Rattle.std.specs.Prelude.{ℕ, ◌≤◌}

-- its number, its type, and where it is
pub record Drawn : Type 0 where
  pub number : ℕ
  pub kind : ℕ
  pub x : ℕ
  pub y : ℕ

-- a draw gives no more than this
pub record IsDrawn (round : Drawn) : Type 0 where
  pub x : round.x ≤ 983_040
  pub y : round.y ≤ 983_040
