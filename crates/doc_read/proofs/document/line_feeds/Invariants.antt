use Rattle.std.proofs.Common.{◌≡◌, ◌++◌, false, length}
use Rattle.std.specs.Prelude.{string_bytes, encode_utf8_all}
use Rattle.std.specs.Str.{chars}
use denote.Shadow.{shadow}
use denote.Text.{Utf8}
use Rattle.doc_read.specs.Document.{line_feeds}
use Rattle.doc_read.proofs.document.line_feeds.Given as goal

abbrev pub invariant-loop-c : goal.invariant-loop-c
invariant-loop-c l = record {
  text : shadow (Utf8 l.rest);
  same : string_bytes l.found ++ encode_utf8_all (line_feeds l.was_return (chars l.rest)) ≡ encode_utf8_all (line_feeds false (chars l.cs));
}

abbrev pub decreases-loop-c : goal.decreases-loop-c
decreases-loop-c l = length l.rest
