use Rattle.std.proofs.Common.{◌∙◌, sym, arith}
use Rattle.lock_table.proofs.Dashes.{no_first_dash}
use Rattle.lock_table.proofs.id.LockId.read.Goals as goal

pub returns-in_err-word : goal.returns-in_err-word
returns-in_err-word c = c.from_residual.ensures ∙ sym (no_first_dash c.args.text.now (c.in_err-word.ensures.byte (omega arith) (λ w o h. h)))
