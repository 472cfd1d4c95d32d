use Rattle.std.proofs.Common.{◌≡◌, length}
use Rattle.std.specs.Str.{chars}
use denote.Shadow.{shadow}
use denote.Text.{Utf8}
use Rattle.doc_read.specs.Chars.{split_front}
use Rattle.doc_read.specs.Rest.{IsRest}
use Rattle.doc_read.proofs.lex.skip_each.Given as goal

abbrev pub invariant-loop-after : goal.invariant-loop-after
invariant-loop-after l = record {
  text : shadow (Utf8 l.rest);
  same : (split_front l.class (chars l.rest)).1 ≡ (split_front l.class (chars l.text)).1;
  rest : IsRest l.text l.rest;
}

abbrev pub decreases-loop-after : goal.decreases-loop-after
decreases-loop-after l = length l.rest
