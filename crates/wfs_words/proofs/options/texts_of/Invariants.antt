use Rattle.std.proofs.Common.{◌≡◌, map, drop, string_bytes}
use Rattle.wfs_words.specs.Words.{read, texts_of, view_state}
use Rattle.wfs_words.proofs.options.texts_of.Given as goal

abbrev pub invariant-loop-word : goal.invariant-loop-word
invariant-loop-word l = read (view_state l.state) (drop l.word-index (map string_bytes l.words)) ≡ texts_of (map string_bytes l.words)
