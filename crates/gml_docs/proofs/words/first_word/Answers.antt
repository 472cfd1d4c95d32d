use Rattle.std.proofs.Common.{ℕ, ◌-◌, List, length, take, drop, rules}
use Rattle.std.proofs.lemmas.List.{take_rest}
use Rattle.gml_docs.proofs.Cuts.{none_left, first_is}
use Rattle.gml_docs.proofs.words.first_word.Goals as goal

-- a slice from a place on
abbrev from : ℕ → List ℕ → List ℕ
from n text = take (length text - n) (drop n text)

pub returns-then-is_empty : goal.returns-then-is_empty
returns-then-is_empty c =
    let n = c.leading_spaces.result in
    none_left c.args.text.now (from n c.args.text.now) n c.leading_spaces.ensures.count (take_rest c.args.text.now n) (search rules)

pub returns : goal.returns
returns c =
    let n = c.leading_spaces.result in
    first_is c.args.text.now (from n c.args.text.now) n c.leading_spaces.ensures.count (take_rest c.args.text.now n) c.word_length.result _ _ c.word_length.ensures.count (search rules) c.split_at.ensures.front c.split_at.ensures.back
