use Rattle.std.proofs.Common.{◌≡◌, ◌+◌, length, chars}
use denote.Text.{Utf8}
use denote.Shadow.{shadow}
use Rattle.fes_filter.specs.Like.{is_like, some_end}
use Rattle.fes_filter.proofs.like.has_end_like.Given as goal

abbrev pub invariant-loop-behind : goal.invariant-loop-behind
invariant-loop-behind l = record {
  utf8 : shadow (Utf8 l.rest);
  same : some_end (is_like l.parts) (chars l.rest) ≡ some_end (is_like l.pattern) (chars l.text);
}

abbrev pub decreases-loop-behind : goal.decreases-loop-behind
decreases-loop-behind l = length l.parts + length l.rest
