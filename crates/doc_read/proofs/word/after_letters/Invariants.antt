use Rattle.std.proofs.Common.{◌≡◌, drop}
use Rattle.std.specs.Str.{chars}
use denote.Shadow.{shadow}
use denote.Text.{Utf8}
use Rattle.doc_read.specs.Chars.{letters_at}
use Rattle.doc_read.proofs.word.after_letters.Given as goal

abbrev pub invariant-loop-w : goal.invariant-loop-w
invariant-loop-w l = record {
  text : shadow (Utf8 l.rest);
  same : letters_at (drop l.w-index l.letters) (chars l.rest) ≡ letters_at l.letters (chars l.cs);
}
