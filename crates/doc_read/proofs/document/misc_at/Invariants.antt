use Rattle.std.proofs.Common.{◌≡◌, ◌+◌, ◌-◌, length}
use Rattle.std.specs.Str.{chars}
use denote.Shadow.{shadow}
use denote.Text.{Utf8}
use Rattle.wfs_ends.specs.Read.{until}
use Rattle.doc_read.specs.declared.fault.DocFault.TheVariants.{Malformed}
use Rattle.doc_read.specs.Document.{misc_at, misc_turn}
use Rattle.doc_read.proofs.document.misc_at.Given as goal

abbrev pub invariant-loop : goal.invariant-loop
invariant-loop l = record {
  text : shadow (Utf8 l.rest);
  reads : until Malformed misc_turn ((length l.cs + 1) - l.counter) (chars l.rest) ≡ misc_at (chars l.cs);
}
