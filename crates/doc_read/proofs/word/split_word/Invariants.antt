use Rattle.std.proofs.Common.{◌≡◌, ◌++◌, ℕ, List, [], length}
use Rattle.std.specs.Str.{chars}
use denote.Shadow.{shadow}
use denote.Text.{Utf8}
use Rattle.doc_read.specs.Chars.{split_from}
use Rattle.doc_read.specs.Rest.{IsRest}
use Rattle.doc_read.proofs.word.split_word.Given as goal

abbrev pub invariant-loop-next : goal.invariant-loop-next
invariant-loop-next l = record {
  text : shadow (Utf8 l.rest);
  rest : IsRest l.cs l.rest;
  same : (found : List ℕ) × (chars l.cs ≡ found ++ chars l.rest) × (split_from l.word found (chars l.rest) ≡ split_from l.word [] (chars l.cs));
}

abbrev pub decreases-loop-next : goal.decreases-loop-next
decreases-loop-next l = length l.rest
