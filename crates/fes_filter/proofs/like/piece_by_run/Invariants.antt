use Rattle.std.proofs.Common.{◌≡◌, ◌≤◌, length, chars}
use denote.Text.{Utf8}
use denote.Shadow.{shadow}
use Rattle.fes_filter.specs.Like.{is_like, some_end}
use Rattle.fes_filter.proofs.like.piece_by_run.Given as goal

abbrev pub invariant-loop-left : goal.invariant-loop-left
invariant-loop-left l = record {
  utf8 : shadow (Utf8 l.rest);
  same : some_end (is_like l.parts) (chars l.rest) ≡ some_end (is_like l.parts) (chars l.text);
  shorter : length l.rest ≤ length l.text;
}

abbrev pub decreases-loop-left : goal.decreases-loop-left
decreases-loop-left l = length l.rest
