use Rattle.std.proofs.Common.{◌++◌, ap, ◌∙◌}
use Rattle.journal_format.proofs.Writes.{lowest}
use Rattle.journal_format.proofs.numbers.put_number.Goals as goal

pub returns-clause-items : goal.returns-clause-items
returns-clause-items c = c.put_bytes.ensures.items ∙ ap (λ ys. c.args.into.now.items ++ ys) (lowest c.args.width c.args.number _ c.write_u64.ensures c.requires.width)
