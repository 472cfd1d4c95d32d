use Rattle.std.proofs.Common.{◌≡◌, ◌-◌, length}
use Rattle.std.specs.Prelude.{string_bytes}
use Rattle.std.specs.Str.{chars}
use denote.Shadow.{shadow}
use denote.Text.{Utf8}
use Rattle.wfs_ends.specs.Read.{until}
use Rattle.doc_read.specs.declared.fault.DocFault.TheVariants.{Malformed}
use Rattle.doc_read.specs.Lex.{part, value_turn, inside_value}
use Rattle.doc_read.proofs.value.inside_value.Given as goal

abbrev pub invariant-loop : goal.invariant-loop
invariant-loop l = record {
  text : shadow (Utf8 l.rest);
  reads : until Malformed (value_turn l.quote) (length l.cs - l.counter) (part (string_bytes l.text) (chars l.rest)) ≡ inside_value l.quote (chars l.cs);
}
