use Rattle.std.proofs.Common.{◌≡◌, ◌-◌, [], length, map}
use Rattle.std.specs.Str.{chars}
use denote.Shadow.{shadow}
use denote.Text.{Utf8}
use Rattle.doc_read.specs.Lex.{raw_of, attributes_at}
use Rattle.doc_read.proofs.tag.attributes_at.Given as goal

abbrev pub invariant-loop : goal.invariant-loop
invariant-loop l = record {
  text : shadow (Utf8 l.rest);
  reads : attributes_at (length l.cs - l.counter) (map raw_of l.found.items) (chars l.rest) ≡ attributes_at (length (chars l.cs)) [] (chars l.cs);
}
